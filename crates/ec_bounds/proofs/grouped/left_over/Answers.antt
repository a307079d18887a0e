use Rattle.std.proofs.Common.{rules}
use Rattle.ec_bounds.proofs.grouped.left_over.Goals as goal

pub loop-phase-init : goal.loop-phase-init
loop-phase-init g c = search rules

pub loop-phase-preserved : goal.loop-phase-preserved
loop-phase-preserved g c = search rules
