use Rattle.std.proofs.Common.{arith}
use Rattle.std.proofs.lemmas.Grind.{common_steps}
use Rattle.ec_cert_text.proofs.spelled.spelled_node.Goals as goal

pub returns-in_ok-slot-in-70 : goal.returns-in_ok-slot-in-70
returns-in_ok-slot-in-70 c = grind (arith, common_steps)
