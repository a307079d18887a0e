use Rattle.std.proofs.Common.{◌∙◌, Err, ap}
use Rattle.std.proofs.lemmas.Result.{err_from_is_err_and}
use Rattle.ec_cert.specs.Shapes.{cert_view}
use Rattle.ec_cli_answers.proofs.CheckedLemmas.{checked_no, checked_yes}
use Rattle.ec_cli_answers.proofs.plain.check_answer.Goals as goal

pub returns-in_err-right : goal.returns-in_err-right
returns-in_err-right c =
    let p = err_from_is_err_and c.from_residual.result c.from_residual.ensures.1 in
    checked_no c.args.units.now c.args.text.items c.in_err-right.field-0.0 c.from_residual.result (p.1 ∙ ap (λ e. Err e) p.2) c.in_err-right.ensures.err

pub returns : goal.returns
returns c = checked_yes c.args.units.now c.args.text.items (cert_view c.in_ok-right.right.cert) c.in_ok-verdict_answer.field-0 c.in_ok-right.right.verdict c.in_ok-right.ensures.ok c.in_ok-right.ensures.verdict c.in_ok-verdict_answer.ensures
