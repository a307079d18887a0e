use Rattle.std.proofs.Common.{arith}
use Rattle.std.proofs.lemmas.Grind.{common_steps}
use Rattle.ec_cli_refusals.proofs.reason.push_pair.Goals as goal

pub returns-clause-items : goal.returns-clause-items
returns-clause-items c = grind (arith, common_steps)
