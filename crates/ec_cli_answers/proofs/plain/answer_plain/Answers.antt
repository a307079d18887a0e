use Rattle.std.proofs.Common.{rules, ◌∙◌, Option, Err, ap, sym, subst, option_map}
use Rattle.std.proofs.lemmas.Result.{err_from_is_err_and}
use Rattle.ec_cli_inputs.specs.declared.input.Given.{Given}
use Rattle.ec_cli_answers.specs.Told.{HasInput, IsOfPlan}
use Rattle.ec_cli_answers.proofs.FramedLemmas.{fault_from, plan_from}
use Rattle.ec_cli_answers.proofs.ToldLemmas.{check_tells, fault_tells, handed_with, plan_writes, same_tells}
use Rattle.ec_cli_answers.proofs.plain.answer_plain.Goals as goal

pub returns-in-Some-clause-told : goal.returns-in-Some-clause-told
returns-in-Some-clause-told g c = λ bytes cert says.
    rw c.in-Check.is (check_tells bytes cert c.args.inputs.units c.in-Some.given.text.items c.check_answer.result c.without_file.result says.0
    (sym (ap (λ (o : Option Given). option_map (λ (g : Given). g.text.items) o) c.in-Some.is) ∙ says.1)
    c.without_file.ensures.text c.without_file.ensures.file c.without_file.ensures.hands c.check_answer.ensures)

pub returns-in_err-chosen-in-Frames-clause-told : goal.returns-in_err-chosen-in-Frames-clause-told
returns-in_err-chosen-in-Frames-clause-told g c = λ bytes cert says.
    let of : IsOfPlan c.args.job.now = search rules in
    let p = err_from_is_err_and c.from_residual.result c.from_residual.ensures.1 in
    fault_tells c.args.job.now bytes cert c.in_err-chosen-in-Frames.field-0.0 c.from_residual.result of (subst (HasInput c.args.job.now) says.1 c.requires.given) (p.1 ∙ ap (λ e. Err e) p.2) (fault_from bytes cert c.args.inputs c.in_err-chosen-in-Frames.field-0.0 says c.in_err-chosen-in-Frames.ensures.err)

pub returns-clause-told : goal.returns-clause-told
returns-clause-told g c = λ bytes cert says.
    let of : IsOfPlan c.args.job.now = search rules in
    let chosen = c.in_ok-chosen-in-Frames.ensures in
    let from = plan_from bytes cert c.args.inputs c.in_ok-chosen-in-Frames.chosen.plan says chosen.ok in
    same_tells c.args.job.now bytes cert c.tell_plan-told.result c.with_plan.result c.with_plan.ensures.text c.with_plan.ensures.file
    (handed_with c.args.job.now bytes cert c.args.inputs c.in_ok-chosen-in-Frames.chosen c.with_plan.result of from says chosen.verdict c.with_plan.ensures.plan c.with_plan.ensures.ending c.with_plan.ensures.verdict)
    (plan_writes c.args.job.now bytes cert c.args.inputs.units c.in_ok-chosen-in-Frames.chosen.plan c.tell_plan-told.result of (subst (HasInput c.args.job.now) says.1 c.requires.given) from c.tell_plan-told.ensures.told)
