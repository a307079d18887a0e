use Rattle.std.proofs.Common.{◌∙◌, Err, ap, inr}
use Rattle.std.proofs.lemmas.Result.{err_from_is_err_and}
use Rattle.ec_cert.specs.Shapes.{cert_view}
use Rattle.ec_cli_answers.proofs.FramedLemmas.{framed_no, framed_none, plan_held}
use Rattle.ec_cli_answers.proofs.plans.text_plan.Goals as goal

pub returns-in_err-cert-clause-err : goal.returns-in_err-cert-clause-err
returns-in_err-cert-clause-err c =
    let p = err_from_is_err_and c.from_residual.result c.from_residual.ensures.1 in
    framed_no c.args.units.now c.args.text.items c.in_err-cert.field-0.0 c.from_residual.result (p.1 ∙ ap (λ e. Err e) p.2) c.in_err-cert.ensures.err

pub returns-in-Some-clause-ok : goal.returns-in-Some-clause-ok
returns-in-Some-clause-ok c = plan_held c.args.units.now c.args.text.items (cert_view c.in_ok-cert.field-0.cert) c.in-Some.best c.in_ok-cert.ensures.ok c.in-Some.is

pub returns-clause-err : goal.returns-clause-err
returns-clause-err c = inr (framed_none c.args.units.now c.args.text.items (cert_view c.in_ok-cert.field-0.cert) c.in_ok-cert.ensures.ok c.in-None.is)
