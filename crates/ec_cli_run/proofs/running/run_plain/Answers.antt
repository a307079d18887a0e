use Rattle.std.proofs.Common.{◌∙◌, Result, refl, sym, subst}
use Rattle.ec_cli_inputs.specs.declared.input.Inputs.{Inputs}
use Rattle.ec_cli_refusals.specs.declared.refusal.Refusal.{Refusal}
use Rattle.ec_cli_run.specs.Runs.{AnswersOf}
use Rattle.ec_cli_run.proofs.RunLemmas.{does_read, does_unread, does_without, nowhere_with, tells_more, unwritten_with, write_with}
use Rattle.ec_cli_run.proofs.TruthLemmas.{truly}
use Rattle.ec_cli_run.proofs.running.run_plain.Goals as goal
use Rattle.ec_cli_run.proofs.running.run_plain.Goals.{in-Some, in-None, then-reads_cert, else-reads_cert, then-writes_file, else-writes_file}

pub returns-after-writes_file : goal.returns-after-writes_file
returns-after-writes_file g c =
    elim c.if-writes_file.branch [
      | then-writes_file o ↦
          let writes = sym c.writes_file.ensures ∙ o.if-writes_file.true in
          elim c.match-cert.branch [
            | in-Some w ↦ elim w.if-reads_cert.branch [
              | then-reads_cert v ↦ rw (w.units-is, v.units-is, w.cert-is, v.cert-is, o.text-is, o.out-is, o.result-is) (tells_more (λ x h. truly c.law_trees_bound.ensures c.law_levels_bound.ensures _ _ _ _ _ c.requires.cert (rw (w.in-Some.is, c.in-Some-out.is) (does_read c.args.job.now _ _ _ v.read_both.result c.tell_plain-told.result (sym w.reads_cert.ensures ∙ v.if-reads_cert.true) v.read_both.ensures.read (subst (λ (r : Result Inputs Refusal). AnswersOf c.args.job.now r c.tell_plain-told.result) (w.read-is ∙ v.read-is) c.tell_plain-told.ensures.told) x (write_with c.args.job.now c.tell_plain-told.result _ x writes (rw c.in-Some-out.is at c.requires.out writes) h)))) o.deliver_to.ensures)
              | else-reads_cert v ↦ rw (w.units-is, v.units-is, w.cert-is, v.cert-is, o.text-is, o.out-is, o.result-is) (tells_more (λ x h. truly c.law_trees_bound.ensures c.law_levels_bound.ensures _ _ _ _ _ c.requires.cert (rw (w.in-Some.is, c.in-Some-out.is) (does_unread c.args.job.now _ _ _ v.read_alone.result c.tell_plain-told.result (sym w.reads_cert.ensures ∙ v.if-reads_cert.false) refl v.read_alone.ensures.read (subst (λ (r : Result Inputs Refusal). AnswersOf c.args.job.now r c.tell_plain-told.result) (w.read-is ∙ v.read-is) c.tell_plain-told.ensures.told) x (write_with c.args.job.now c.tell_plain-told.result _ x writes (rw c.in-Some-out.is at c.requires.out writes) h)))) o.deliver_to.ensures)
            ]
            | in-None w ↦ rw (w.units-is, w.cert-is, o.text-is, o.out-is, o.result-is) (tells_more (λ x h. truly c.law_trees_bound.ensures c.law_levels_bound.ensures _ _ _ _ _ c.requires.cert (rw (w.in-None.is, c.in-Some-out.is) (does_without _ c.args.job.now _ _ _ w.read_alone-read.result c.tell_plain-told.result (rw w.in-None.is at c.requires.cert) w.read_alone-read.ensures.read (subst (λ (r : Result Inputs Refusal). AnswersOf c.args.job.now r c.tell_plain-told.result) w.read-is c.tell_plain-told.ensures.told) x (write_with c.args.job.now c.tell_plain-told.result _ x writes (rw c.in-Some-out.is at c.requires.out writes) h)))) o.deliver_to.ensures)
          ]
      | else-writes_file o ↦
          let leaves = sym c.writes_file.ensures ∙ o.if-writes_file.false in
          elim c.match-cert.branch [
            | in-Some w ↦ elim w.if-reads_cert.branch [
              | then-reads_cert v ↦ rw (w.units-is, v.units-is, w.cert-is, v.cert-is, o.text-is, o.out-is, o.result-is) (tells_more (λ x h. truly c.law_trees_bound.ensures c.law_levels_bound.ensures _ _ _ _ _ c.requires.cert (rw (w.in-Some.is, c.in-Some-out.is) (does_read c.args.job.now _ _ _ v.read_both.result c.tell_plain-told.result (sym w.reads_cert.ensures ∙ v.if-reads_cert.true) v.read_both.ensures.read (subst (λ (r : Result Inputs Refusal). AnswersOf c.args.job.now r c.tell_plain-told.result) (w.read-is ∙ v.read-is) c.tell_plain-told.ensures.told) x (unwritten_with c.args.job.now c.tell_plain-told.result _ x leaves refl h)))) o.deliver_text.ensures)
              | else-reads_cert v ↦ rw (w.units-is, v.units-is, w.cert-is, v.cert-is, o.text-is, o.out-is, o.result-is) (tells_more (λ x h. truly c.law_trees_bound.ensures c.law_levels_bound.ensures _ _ _ _ _ c.requires.cert (rw (w.in-Some.is, c.in-Some-out.is) (does_unread c.args.job.now _ _ _ v.read_alone.result c.tell_plain-told.result (sym w.reads_cert.ensures ∙ v.if-reads_cert.false) refl v.read_alone.ensures.read (subst (λ (r : Result Inputs Refusal). AnswersOf c.args.job.now r c.tell_plain-told.result) (w.read-is ∙ v.read-is) c.tell_plain-told.ensures.told) x (unwritten_with c.args.job.now c.tell_plain-told.result _ x leaves refl h)))) o.deliver_text.ensures)
            ]
            | in-None w ↦ rw (w.units-is, w.cert-is, o.text-is, o.out-is, o.result-is) (tells_more (λ x h. truly c.law_trees_bound.ensures c.law_levels_bound.ensures _ _ _ _ _ c.requires.cert (rw (w.in-None.is, c.in-Some-out.is) (does_without _ c.args.job.now _ _ _ w.read_alone-read.result c.tell_plain-told.result (rw w.in-None.is at c.requires.cert) w.read_alone-read.ensures.read (subst (λ (r : Result Inputs Refusal). AnswersOf c.args.job.now r c.tell_plain-told.result) w.read-is c.tell_plain-told.ensures.told) x (unwritten_with c.args.job.now c.tell_plain-told.result _ x leaves refl h)))) o.deliver_text.ensures)
          ]
    ]

pub returns-in-None-out : goal.returns-in-None-out
returns-in-None-out g c =
    elim c.match-cert.branch [
      | in-Some w ↦ elim w.if-reads_cert.branch [
        | then-reads_cert v ↦ rw (w.units-is, v.units-is, w.cert-is, v.cert-is) (tells_more (λ x h. truly c.law_trees_bound.ensures c.law_levels_bound.ensures _ _ _ _ _ c.requires.cert (rw (w.in-Some.is, c.in-None-out.is) (does_read c.args.job.now _ _ _ v.read_both.result c.tell_plain-told.result (sym w.reads_cert.ensures ∙ v.if-reads_cert.true) v.read_both.ensures.read (subst (λ (r : Result Inputs Refusal). AnswersOf c.args.job.now r c.tell_plain-told.result) (w.read-is ∙ v.read-is) c.tell_plain-told.ensures.told) x (nowhere_with c.args.job.now c.tell_plain-told.result _ x h)))) c.deliver_text-in-None-out.ensures)
        | else-reads_cert v ↦ rw (w.units-is, v.units-is, w.cert-is, v.cert-is) (tells_more (λ x h. truly c.law_trees_bound.ensures c.law_levels_bound.ensures _ _ _ _ _ c.requires.cert (rw (w.in-Some.is, c.in-None-out.is) (does_unread c.args.job.now _ _ _ v.read_alone.result c.tell_plain-told.result (sym w.reads_cert.ensures ∙ v.if-reads_cert.false) refl v.read_alone.ensures.read (subst (λ (r : Result Inputs Refusal). AnswersOf c.args.job.now r c.tell_plain-told.result) (w.read-is ∙ v.read-is) c.tell_plain-told.ensures.told) x (nowhere_with c.args.job.now c.tell_plain-told.result _ x h)))) c.deliver_text-in-None-out.ensures)
      ]
      | in-None w ↦ rw (w.units-is, w.cert-is) (tells_more (λ x h. truly c.law_trees_bound.ensures c.law_levels_bound.ensures _ _ _ _ _ c.requires.cert (rw (w.in-None.is, c.in-None-out.is) (does_without _ c.args.job.now _ _ _ w.read_alone-read.result c.tell_plain-told.result (rw w.in-None.is at c.requires.cert) w.read_alone-read.ensures.read (subst (λ (r : Result Inputs Refusal). AnswersOf c.args.job.now r c.tell_plain-told.result) w.read-is c.tell_plain-told.ensures.told) x (nowhere_with c.args.job.now c.tell_plain-told.result _ x h)))) c.deliver_text-in-None-out.ensures)
    ]
