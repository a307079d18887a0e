use Rattle.std.proofs.Common.{rules, ◌≡◌, Some, None, length, sym, ap, ◌∙◌}
use Rattle.ec_frames.specs.declared.writing.BuildFault.{BuildFault}
use Rattle.ec_frames.proofs.BuildFaults.{fault_has, has_fault, buildable_none}
use Rattle.ec_frames.proofs.WrittenReads.{length-written}
use Rattle.ec_frames.proofs.writing.rebuild.Goals as goal

pub returns-in-Some-clause-fault : goal.returns-in-Some-clause-fault
returns-in-Some-clause-fault c = λ f. (
  (λ e. let same : c.in-Some.fault ≡ f = cc in fault_has c.args.list.now f (sym c.in-Some.ensures.fault ∙ ap (λ (x : BuildFault). Some x) same)),
  (λ h. let same : Some c.in-Some.fault ≡ Some f = c.in-Some.ensures.fault ∙ has_fault c.args.list.now f h in let is : c.in-Some.fault ≡ f = cc in cc),
)

pub returns-in-Some-clause-built : goal.returns-in-Some-clause-built
returns-in-Some-clause-built c = λ h.
    let same : Some c.in-Some.fault ≡ None = c.in-Some.ensures.fault ∙ buildable_none c.args.list.now h in
    absurd (cc (same))

pub returns-in-None-clause-len : goal.returns-in-None-clause-len
returns-in-None-clause-len c = ap length c.write.ensures ∙ length-written c.args.list.now c.args.bytes.now c.requires

pub returns-in-None-clause-fault : goal.returns-in-None-clause-fault
returns-in-None-clause-fault c = λ f. (
  (λ e. absurd (cc (e))),
  (λ h. let same : None ≡ Some f = c.in-None.ensures.fault ∙ has_fault c.args.list.now f h in absurd (cc (same))),
)

pub returns-in-None-clause-built : goal.returns-in-None-clause-built
returns-in-None-clause-built c = search rules
