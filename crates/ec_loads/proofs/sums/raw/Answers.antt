use Rattle.std.proofs.Common.{rules}
use Rattle.ec_loads.proofs.sums.raw.Goals as goal

pub loop-slot-preserved : goal.loop-slot-preserved
loop-slot-preserved c = search rules
