use Rattle.std.proofs.Common.{rules}
use Rattle.ec_frames.proofs.writing.fault_of.Goals as goal

pub returns-clause-fault : goal.returns-clause-fault
unfolding Rattle.ec_frames.specs.Written.build_fault
returns-clause-fault c = search rules

pub returns-then-total_to_2000-gt1498-clause-fault : goal.returns-then-total_to_2000-gt1498-clause-fault
unfolding Rattle.ec_frames.specs.Written.build_fault
returns-then-total_to_2000-gt1498-clause-fault c = search rules
