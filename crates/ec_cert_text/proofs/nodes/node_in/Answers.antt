use Rattle.std.proofs.Common.{Ok, Err, sym, ◌∙◌, rules}
use Rattle.std.proofs.lemmas.Result.{err_from_is_err_and}
use Rattle.ec_cert_text.proofs.KindLemmas.{says_split, says_tick, says_full, says_none}
use Rattle.ec_cert_text.proofs.nodes.node_in.Goals as goal

pub returns-in_err-number : goal.returns-in_err-number
returns-in_err-number c =
    let p = err_from_is_err_and c.from_residual.result c.from_residual.ensures.1 in
    rw (p.1, p.2) (says_split c.args.line.now (Err c.in_err-number.field-0.0) (sym c.starts_with.ensures.value ∙ c.if-starts_with.true) c.in_err-number.ensures.value)

pub returns-then-starts_with : goal.returns-then-starts_with
returns-then-starts_with c = says_split c.args.line.now (Ok c.in_ok-number.field-0) (sym c.starts_with.ensures.value ∙ c.if-starts_with.true) c.in_ok-number.ensures.value

pub returns-in_err-number-2 : goal.returns-in_err-number-2
returns-in_err-number-2 c =
    let p = err_from_is_err_and c.from_residual-in_err-number-2.result c.from_residual-in_err-number-2.ensures.1 in
    rw (p.1, p.2) (says_tick c.args.line.now (Err c.in_err-number-2.field-0.0) (sym c.starts_with.ensures.value ∙ c.if-starts_with.false) (sym c.starts_with-2.ensures.value ∙ c.if-starts_with-2.true) c.in_err-number-2.ensures.value)

pub returns-then-starts_with-2 : goal.returns-then-starts_with-2
returns-then-starts_with-2 c = says_tick c.args.line.now (Ok c.in_ok-number-2.field-0) (sym c.starts_with.ensures.value ∙ c.if-starts_with.false) (sym c.starts_with-2.ensures.value ∙ c.if-starts_with-2.true) c.in_ok-number-2.ensures.value

pub returns-in_err-tick : goal.returns-in_err-tick
returns-in_err-tick c =
    let p = err_from_is_err_and c.from_residual-in_err-tick.result c.from_residual-in_err-tick.ensures.1 in
    rw (p.1, p.2) (says_full c.args.line.now (Err c.in_err-tick.field-0.0) (sym c.starts_with.ensures.value ∙ c.if-starts_with.false) (sym c.starts_with-2.ensures.value ∙ c.if-starts_with-2.false) (sym c.starts_with-3.ensures.value ∙ c.if-starts_with-3.true) c.in_err-tick.ensures.value)

pub returns-then-starts_with-3 : goal.returns-then-starts_with-3
returns-then-starts_with-3 c = says_full c.args.line.now (Ok (c.in_ok-tick.tick, c.in_ok-tick.slot)) (sym c.starts_with.ensures.value ∙ c.if-starts_with.false) (sym c.starts_with-2.ensures.value ∙ c.if-starts_with-2.false) (sym c.starts_with-3.ensures.value ∙ c.if-starts_with-3.true) c.in_ok-tick.ensures.value

pub returns-then-eq : goal.returns-then-eq
unfolding Rattle.ec_cert_text.specs.Reading.node_in
returns-then-eq c = search rules

pub returns : goal.returns
returns c = says_none c.args.line.now (sym c.starts_with.ensures.value ∙ c.if-starts_with.false) (sym c.starts_with-2.ensures.value ∙ c.if-starts_with-2.false) (sym c.starts_with-3.ensures.value ∙ c.if-starts_with-3.false) (search rules)
