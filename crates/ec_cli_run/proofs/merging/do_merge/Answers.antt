use Rattle.std.proofs.Common.{◌≡◌, ◌∙◌, sym, subst, Result, None, length}
use Rattle.std.specs.Prelude.{IfErr, IfOk, IfSome}
use Rattle.ec_wire.specs.Stream.{stream}
use Rattle.ec_cli_answers.specs.declared.told.Told.{Told}
use Rattle.ec_cli_inputs.specs.Use.{used}
use Rattle.ec_cli_refusals.specs.Refusals.{out_of_memory}
use Rattle.ec_cli_run.specs.Merging.{IsMergeFault, IsTrueMerge}
use Rattle.ec_cli_run.specs.declared.merging.MergeFault.{MergeFault}
use Rattle.ec_cli_run.specs.declared.merging.MergeFault.TheVariants as fault
use Rattle.ec_cli_run.proofs.MergeLemmas.{merge_tells, unmerged_truth}
use Rattle.ec_cli_run.proofs.RunLemmas.{tells_more}
use Rattle.ec_cli_run.proofs.merging.do_merge.Goals as goal

pub returns-in_default-clause-truth : goal.returns-in_default-clause-truth
returns-in_default-clause-truth g c = tells_more
    (λ w is. (
      is,
      merge_tells (used g.R.Read.remaining c.args.units.now c.args.units.now) c.deliver_report.result.told c.deliver_report.result.fault w is
          (λ sound. unmerged_truth (g.R.Read.remaining (stream c.args.units.now)) (fault.Refused out_of_memory) c.deliver_report.result.told c.deliver_report.ensures.told),
    )) c.deliver_report.ensures.text

pub returns-in_default-clause-told : goal.returns-in_default-clause-told
returns-in_default-clause-told g c sound =
    unmerged_truth (g.R.Read.remaining (stream c.args.units.now)) (fault.Refused out_of_memory) c.deliver_report.result.told c.deliver_report.ensures.told

pub returns-clause-truth : goal.returns-clause-truth
returns-clause-truth g c = tells_more
    (λ w is. (
      is,
      merge_tells (used g.R.Read.remaining c.args.units.now c.tell_merge-told.new.units) c.deliver_report-2.result.told c.deliver_report-2.result.fault w is
          (λ sound. subst (λ (x : Result Told MergeFault). IfSome (g.R.Read.remaining (stream c.args.units.now)) (λ bytes. IsTrueMerge bytes x)) (sym c.deliver_report-2.ensures.told) (c.tell_merge-told.ensures.truth sound)),
    )) c.deliver_report-2.ensures.text

pub returns-clause-told : goal.returns-clause-told
returns-clause-told g c sound = subst (λ (x : Result Told MergeFault). IfSome (g.R.Read.remaining (stream c.args.units.now)) (λ bytes. IsTrueMerge bytes x)) (sym c.deliver_report-2.ensures.told) (c.tell_merge-told.ensures.truth sound)

pub returns-clause-err : goal.returns-clause-err
returns-clause-err g c sound =
    subst (λ (x : Result Told MergeFault). IfSome (g.R.Read.remaining (stream c.args.units.now)) (λ bytes. IfErr x (IsMergeFault bytes (length c.args.paths.now)))) (sym c.deliver_report-2.ensures.told) (c.tell_merge-told.ensures.err sound)
