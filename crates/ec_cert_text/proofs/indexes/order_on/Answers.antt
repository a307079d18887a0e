use Rattle.std.proofs.Common.{arith}
use Rattle.std.proofs.lemmas.Grind.{common_steps}
use Rattle.ec_cert_text.proofs.indexes.order_on.Goals as goal

pub returns-then-are_numbers : goal.returns-then-are_numbers
unfolding Rattle.ec_cert_text.specs.Reading.order_in
returns-then-are_numbers c = grind (arith, common_steps)
