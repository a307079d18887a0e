use Rattle.std.proofs.Common.{arith}
use Rattle.std.proofs.lemmas.Grind.{common_steps}
use Rattle.ec_frames.proofs.writing.total_to_2000.Goals as goal

pub loop-datagram-preserved : goal.loop-datagram-preserved
loop-datagram-preserved c = grind (arith, common_steps)
