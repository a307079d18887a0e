use Rattle.std.proofs.Common.{arith}
use Rattle.std.proofs.lemmas.Grind.{common_steps}
use Rattle.ec_bounds.proofs.counted.count_large.Goals as goal

pub loop-load-preserved : goal.loop-load-preserved
loop-load-preserved c = grind (arith, common_steps)
