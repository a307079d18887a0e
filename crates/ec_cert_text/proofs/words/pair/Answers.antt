use Rattle.std.proofs.Common.{rules}
use Rattle.std.proofs.lemmas.Result.{err_from_is_err_and}
use Rattle.ec_cert_text.proofs.KindLemmas.{first_wrong, second_wrong, says_pair}
use Rattle.ec_cert_text.proofs.words.pair.Goals as goal

pub returns-in_err-first-in-Some-clause-value : goal.returns-in_err-first-in-Some-clause-value
returns-in_err-first-in-Some-clause-value c =
    let p = err_from_is_err_and c.from_residual.result c.from_residual.ensures.1 in
    rw (p.1, p.2) (first_wrong c.args.low c.args.high.0 c.args.high.1 c.args.text.now c.in-Some.first.now c.in-Some.second.now c.in_err-first-in-Some.field-0.0 c.in-Some.ensures.parts (search rules) c.in_err-first-in-Some.ensures.value)

pub returns-in_err-second-in-Some-clause-value : goal.returns-in_err-second-in-Some-clause-value
returns-in_err-second-in-Some-clause-value c =
    let p = err_from_is_err_and c.from_residual-in_err-second-in-Some.result c.from_residual-in_err-second-in-Some.ensures.1 in
    rw (p.1, p.2) (second_wrong c.args.low c.args.high.0 c.args.high.1 c.in_ok-first-in-Some.first c.args.text.now c.in-Some.first.now c.in-Some.second.now c.in_err-second-in-Some.field-0.0 c.in-Some.ensures.parts (search rules) c.in_ok-first-in-Some.ensures.value c.in_err-second-in-Some.ensures.value)

pub returns-in_ok-second-in-Some-clause-value : goal.returns-in_ok-second-in-Some-clause-value
returns-in_ok-second-in-Some-clause-value c = says_pair c.args.low c.args.high.0 c.args.high.1 c.in_ok-first-in-Some.first c.in_ok-second-in-Some.second c.args.text.now c.in-Some.first.now c.in-Some.second.now c.in-Some.ensures.parts (search rules) c.in_ok-first-in-Some.ensures.value c.in_ok-second-in-Some.ensures.value
