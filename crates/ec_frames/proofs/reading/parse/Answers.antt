use Rattle.std.proofs.Common.{◌∙◌, sym}
use Rattle.ec_frames.proofs.ReadingFrames.{read_is, fault_is}
use Rattle.ec_frames.proofs.reading.parse.Goals as goal

pub returns-clause-ok : goal.returns-clause-ok
returns-clause-ok c = λ ds. (
  (λ e. (read_is c.args.frame.now ds).0 (sym c.read.ensures ∙ e)),
  (λ h. c.read.ensures ∙ (read_is c.args.frame.now ds).1 h),
)

pub returns-clause-fault : goal.returns-clause-fault
returns-clause-fault c = λ f. (
  (λ e. (fault_is c.args.frame.now f).0 (sym c.read.ensures ∙ e)),
  (λ h. c.read.ensures ∙ (fault_is c.args.frame.now f).1 h),
)
