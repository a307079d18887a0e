use Rattle.std.proofs.Common.{arith}
use Rattle.std.proofs.lemmas.Grind.{common_steps}
use Rattle.ec_checker.proofs.order.is_order.Goals as goal

pub returns-then-are_below : goal.returns-then-are_below
returns-then-are_below c = grind (arith, common_steps)
