use Rattle.std.proofs.Common.{◌∙◌, Err, ap, refl, inl, inr}
use Rattle.std.proofs.lemmas.Result.{err_from_is_err_and}
use Rattle.ec_workers.specs.Answers.{asked_for}
use Rattle.ec_cli_refusals.specs.Refusals.{out_of_memory}
use Rattle.ec_cli_refusals.specs.declared.refusal.Refusal.TheVariants as refusal
use Rattle.ec_cli_answers.specs.Planned.{IsPlanFault, IsPlanOf}
use Rattle.ec_cli_answers.proofs.PlanLemmas.{outcome_tells, search_untold}
use Rattle.ec_cli_answers.proofs.answering.tell_plan.Goals as goal

pub returns-clause-told : goal.returns-clause-told
returns-clause-told g c = λ bytes cert read.
    let asked = asked_for c.args.strong c.args.workers c.args.nodes in
    let found = c.in_ok-outcome.ensures in
    outcome_tells (IsPlanOf c.args.keep asked bytes) (IsPlanFault asked bytes) c.args.units.now c.in_ok-outcome.outcome c.tell_outcome.result
    (record { read = read; answer = found.outcome; beyond = found.beyond; order = found.order; rules = found.rules; kept = λ asks. found.kept asks }) (inr (inl refl)) c.tell_outcome.ensures.ok c.tell_outcome.ensures.err

pub returns-in_err-lines-clause-told : goal.returns-in_err-lines-clause-told
returns-in_err-lines-clause-told g c = λ bytes cert read.
    let asked = asked_for c.args.strong c.args.workers c.args.nodes in
    let p = err_from_is_err_and c.from_residual-in_err-lines.result c.from_residual-in_err-lines.ensures.1 in
    search_untold (IsPlanOf c.args.keep asked bytes) (IsPlanFault asked bytes) out_of_memory c.from_residual-in_err-lines.result (p.1 ∙ ap (λ e. Err e) p.2) (inr (inl refl))

pub returns-in_err-outcome-clause-told : goal.returns-in_err-outcome-clause-told
returns-in_err-outcome-clause-told g c = λ bytes cert read.
    let asked = asked_for c.args.strong c.args.workers c.args.nodes in
    let p = err_from_is_err_and c.from_residual-in_err-outcome.result c.from_residual-in_err-outcome.ensures.1 in
    search_untold (IsPlanOf c.args.keep asked bytes) (IsPlanFault asked bytes) (refusal.Solve c.in_err-outcome.field-0.0) c.from_residual-in_err-outcome.result (p.1 ∙ ap (λ e. Err e) p.2) (inr (inr (c.in_err-outcome.field-0.0, refl, c.in_err-outcome.ensures.fault)))
