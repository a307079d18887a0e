use Rattle.std.proofs.Common.{◌∙◌, Err, ap, refl, inl, inr}
use Rattle.std.proofs.lemmas.Result.{err_from_is_err_and}
use Rattle.ec_cli_refusals.specs.Refusals.{out_of_memory}
use Rattle.ec_cli_answers.specs.Planned.{IsResumeFault, IsResumeOf}
use Rattle.ec_cli_answers.proofs.PlanLemmas.{outcome_tells, search_untold}
use Rattle.ec_cli_answers.proofs.ResumeLemmas.{resume_of, stopped_text}
use Rattle.ec_cli_answers.proofs.answering.tell_resumed.Goals as goal

pub returns-clause-told : goal.returns-clause-told
returns-clause-told g c = λ bytes read.
    let text = c.args.given.text.items in
    outcome_tells (IsResumeOf c.args.workers c.args.nodes c.args.part bytes text) (IsResumeFault c.args.workers bytes text) c.args.units.now c.in_ok-outcome.outcome c.tell_outcome.result
    (resume_of c.args.workers c.args.nodes c.args.part bytes text c.args.units.now c.in_ok-outcome.outcome read c.in_ok-outcome.ensures.ok) (inl (inr (inl refl))) c.tell_outcome.ensures.ok c.tell_outcome.ensures.err

pub returns-in_err-outcome-clause-told : goal.returns-in_err-outcome-clause-told
returns-in_err-outcome-clause-told g c = λ bytes read.
    let text = c.args.given.text.items in
    let p = err_from_is_err_and c.from_residual-in_err-outcome.result c.from_residual-in_err-outcome.ensures.1 in
    search_untold (IsResumeOf c.args.workers c.args.nodes c.args.part bytes text) (IsResumeFault c.args.workers bytes text) c.in_err-outcome.field-0.0 c.from_residual-in_err-outcome.result (p.1 ∙ ap (λ e. Err e) p.2)
    (stopped_text c.args.workers bytes text c.args.units.now c.in_err-outcome.field-0.0 read c.in_err-outcome.ensures.err)

pub returns-in_err-lines-clause-told : goal.returns-in_err-lines-clause-told
returns-in_err-lines-clause-told g c = λ bytes read.
    let text = c.args.given.text.items in
    let p = err_from_is_err_and c.from_residual.result c.from_residual.ensures.1 in
    search_untold (IsResumeOf c.args.workers c.args.nodes c.args.part bytes text) (IsResumeFault c.args.workers bytes text) out_of_memory c.from_residual.result (p.1 ∙ ap (λ e. Err e) p.2) (inl (inr (inl refl)))
