use Rattle.std.proofs.Common.{arith}
use Rattle.std.proofs.lemmas.Grind.{common_steps}
use Rattle.ec_player.proofs.playing.wire_bytes.Goals as goal

pub loop-trip-preserved : goal.loop-trip-preserved
loop-trip-preserved c = grind (arith, common_steps)
