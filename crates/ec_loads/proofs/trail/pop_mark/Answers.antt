use Rattle.std.proofs.Common.{arith}
use Rattle.std.proofs.lemmas.Grind.{common_steps}
use Rattle.ec_loads.proofs.trail.pop_mark.Goals as goal

pub returns-then-mark-unit : goal.returns-then-mark-unit
returns-then-mark-unit c = grind (arith, common_steps)
