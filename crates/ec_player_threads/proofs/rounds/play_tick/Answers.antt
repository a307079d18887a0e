use Rattle.std.proofs.Common.{arith}
use Rattle.std.proofs.lemmas.Grind.{common_steps}
use Rattle.ec_player_threads.proofs.rounds.play_tick.Goals as goal

pub returns-clause-round : goal.returns-clause-round
returns-clause-round g c = grind (arith, common_steps)
