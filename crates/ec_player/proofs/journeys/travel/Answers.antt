use Rattle.std.proofs.Common.{arith}
use Rattle.std.proofs.lemmas.Grind.{common_steps}
use Rattle.ec_player.proofs.journeys.travel.Goals as goal

pub loop-trip-preserved : goal.loop-trip-preserved
loop-trip-preserved g c = grind (arith, common_steps)
