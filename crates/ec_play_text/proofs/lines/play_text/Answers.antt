use Rattle.std.proofs.Common.{arith}
use Rattle.std.proofs.lemmas.Grind.{common_steps}
use Rattle.ec_play_text.proofs.lines.play_text.Goals as goal

pub returns : goal.returns
unfolding Rattle.ec_play_text.specs.Lines.play_text
returns c = grind (arith, common_steps)
