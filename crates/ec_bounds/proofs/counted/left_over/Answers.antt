use Rattle.std.proofs.Common.{rules}
use Rattle.ec_bounds.proofs.counted.left_over.Goals as goal

pub loop-phase-preserved : goal.loop-phase-preserved
loop-phase-preserved g c = search rules
