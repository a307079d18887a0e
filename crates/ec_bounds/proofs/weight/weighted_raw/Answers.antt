use Rattle.std.proofs.Common.{rules}
use Rattle.ec_bounds.proofs.weight.weighted_raw.Goals as goal

pub loop-i-preserved : goal.loop-i-preserved
loop-i-preserved c = search rules
