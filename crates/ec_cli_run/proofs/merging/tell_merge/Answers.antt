use Rattle.std.proofs.Common.{◌∙◌, Err, ap, length}
use Rattle.std.proofs.lemmas.Result.{err_from_is_err_and}
use Rattle.ec_cli_run.proofs.MergeLemmas.{merge_truth, unmerged_fault, unread_fault, unread_read}
use Rattle.ec_cli_run.proofs.merging.tell_merge.Goals as goal

pub returns-clause-truth : goal.returns-clause-truth
returns-clause-truth g c = λ sound. merge_truth c.law_levels_bound.ensures _ c.in_ok-inputs.inputs c.merge_for.result (c.in_ok-inputs.ensures.read.told sound tt) c.merge_for.ensures.told c.merge_for.ensures.hands

pub returns-clause-err : goal.returns-clause-err
returns-clause-err g c = λ sound. unmerged_fault _ c.in_ok-inputs.inputs c.merge_for.result (length c.args.paths.now) (c.in_ok-inputs.ensures.read.told sound tt) c.merge_for.ensures.err

pub returns-in_err-inputs-clause-err : goal.returns-in_err-inputs-clause-err
returns-in_err-inputs-clause-err g c =
    let p = err_from_is_err_and c.from_residual.result c.from_residual.ensures.1 in
    λ sound. unread_fault _ c.in_err-inputs.field-0.0 c.from_residual.result (length c.args.paths.now) (p.1 ∙ ap (λ e. Err e) p.2) (c.in_err-inputs.ensures.read.told sound tt)

pub returns-in_err-inputs-clause-read : goal.returns-in_err-inputs-clause-read
returns-in_err-inputs-clause-read g c =
    let p = err_from_is_err_and c.from_residual.result c.from_residual.ensures.1 in
    unread_read c.read_alone.result c.in_err-inputs.field-0.0 c.from_residual.result c.in_err-inputs.was (p.1 ∙ ap (λ e. Err e) p.2) c.read_alone.ensures.read.units_read
