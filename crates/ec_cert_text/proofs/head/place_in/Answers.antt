use Rattle.std.proofs.Common.{Ok, Err, rules}
use Rattle.std.proofs.lemmas.Result.{err_from_is_err_and}
use Rattle.ec_cert_text.proofs.KindLemmas.{says_place}
use Rattle.ec_cert_text.proofs.head.place_in.Goals as goal

pub returns-in_err-phase : goal.returns-in_err-phase
returns-in_err-phase c =
    let p = err_from_is_err_and c.from_residual.result c.from_residual.ensures.1 in
    rw (p.1, p.2) (says_place c.args.line.now (Err c.in_err-phase.field-0.0) (search rules) c.in_err-phase.ensures.value)

pub returns : goal.returns
returns c = says_place c.args.line.now (Ok (c.in_ok-phase.phase, c.in_ok-phase.slot)) (search rules) c.in_ok-phase.ensures.value
