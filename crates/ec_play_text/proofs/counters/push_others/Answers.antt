use Rattle.std.proofs.Common.{arith}
use Rattle.std.proofs.lemmas.Grind.{common_steps}
use Rattle.ec_play_text.proofs.counters.push_others.Goals as goal

pub loop-counter-preserved : goal.loop-counter-preserved
loop-counter-preserved c = grind (arith, common_steps)
