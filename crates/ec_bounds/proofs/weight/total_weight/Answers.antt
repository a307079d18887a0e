use Rattle.std.proofs.Common.{rules}
use Rattle.ec_bounds.proofs.weight.total_weight.Goals as goal

pub loop-i-preserved : goal.loop-i-preserved
loop-i-preserved c = search rules
