use Rattle.std.proofs.Common.{arith}
use Rattle.std.proofs.lemmas.Grind.{common_steps}
use Rattle.ec_cert_text.proofs.spelled.spelled_tick.Goals as goal

pub returns-in-84 : goal.returns-in-84
returns-in-84 c = grind (arith, common_steps)
