use Rattle.std.proofs.Common.{arith}
use Rattle.std.proofs.lemmas.Grind.{common_steps}
use Rattle.ec_play_trial.proofs.rounds.send.Goals as goal

pub loop-trip-preserved : goal.loop-trip-preserved
loop-trip-preserved g c = grind (arith, common_steps)
