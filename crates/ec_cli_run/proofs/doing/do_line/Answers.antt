use Rattle.std.proofs.Common.{◌≡◌, ◌∙◌, sym, subst, Result, None}
use Rattle.std.specs.Prelude.{IfOk, IfSome}
use Rattle.ec_wire.specs.Stream.{stream}
use Rattle.ec_cli_command.specs.Words.{cert_of, job_of}
use Rattle.ec_cli_refusals.specs.declared.refusal.Refusal.{Refusal}
use Rattle.ec_cli_answers.specs.declared.told.Told.{Told}
use Rattle.ec_cli_run.specs.Runs.{AnswersLine}
use Rattle.ec_cli_run.proofs.LineLemmas.{found_none, needs_none, reads_its_cert}
use Rattle.ec_cli_run.proofs.RunLemmas.{nothing_read, reads_more, tells_more, told_memory}
use Rattle.ec_cli_run.proofs.TruthLemmas.{line_true}
use Rattle.ec_cli_run.proofs.doing.do_line.Goals as goal

pub returns-in_default-clause-truth : goal.returns-in_default-clause-truth
returns-in_default-clause-truth g c = tells_more
    (λ w is. (
      is,
      line_true c.law_trees_bound.ensures c.law_levels_bound.ensures (job_of c.args.line.now) (cert_of c.args.line.now) _ c.deliver_report.result.told c.deliver_report.result.fault w is
          (λ sound. subst (λ (x : Result Told Refusal). IfSome (g.R.Read.remaining (stream c.args.units.now)) (λ bytes. AnswersLine (job_of c.args.line.now) (cert_of c.args.line.now) bytes x)) (sym c.deliver_report.ensures.told) (told_memory (job_of c.args.line.now) (cert_of c.args.line.now) (needs_none c.args.line.now) (reads_its_cert c.args.line.now) _)),
    )) c.deliver_report.ensures.text

pub returns-in_default-clause-told : goal.returns-in_default-clause-told
returns-in_default-clause-told g c sound = subst (λ (x : Result Told Refusal). IfSome (g.R.Read.remaining (stream c.args.units.now)) (λ bytes. AnswersLine (job_of c.args.line.now) (cert_of c.args.line.now) bytes x)) (sym c.deliver_report.ensures.told) (told_memory (job_of c.args.line.now) (cert_of c.args.line.now) (needs_none c.args.line.now) (reads_its_cert c.args.line.now) _)

pub returns-in_default-clause-read : goal.returns-in_default-clause-read
returns-in_default-clause-read g c = nothing_read _ c.args.units.now _ c.requires.units

pub returns-clause-truth : goal.returns-clause-truth
returns-clause-truth g c = tells_more
    (λ w is. (
      is,
      line_true c.law_trees_bound.ensures c.law_levels_bound.ensures (job_of c.args.line.now) (cert_of c.args.line.now) _ c.deliver_report-2.result.told c.deliver_report-2.result.fault w is
          (λ sound. subst (λ (x : Result Told Refusal). IfSome (g.R.Read.remaining (stream c.args.units.now)) (λ bytes. AnswersLine (job_of c.args.line.now) (cert_of c.args.line.now) bytes x)) (sym c.deliver_report-2.ensures.told) (c.tell_line-told.ensures.told sound)),
    )) c.deliver_report-2.ensures.text

pub returns-clause-told : goal.returns-clause-told
returns-clause-told g c sound = subst (λ (x : Result Told Refusal). IfSome (g.R.Read.remaining (stream c.args.units.now)) (λ bytes. AnswersLine (job_of c.args.line.now) (cert_of c.args.line.now) bytes x)) (sym c.deliver_report-2.ensures.told) (c.tell_line-told.ensures.told sound)

pub returns-clause-read : goal.returns-clause-read
returns-clause-read g c = reads_more (λ _ e. c.deliver_report-2.ensures.told ∙ e) c.tell_line-told.ensures.read

pub returns-clause-fault : goal.returns-clause-fault
returns-clause-fault g c none =
    let nowhere = subst (λ r. IfOk r (λ late. late ≡ None)) c.in-Ok.is (c.late_at.ensures (found_none _ _ (c.out.ensures ∙ none))) in
    c.deliver_report-2.ensures.fault ∙ c.write_late-fault.ensures nowhere
