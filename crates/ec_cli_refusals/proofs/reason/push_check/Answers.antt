use Rattle.std.proofs.Common.{rules}
use Rattle.ec_cli_refusals.proofs.reason.push_check.Goals as goal

pub returns-in-Level-clause-items : goal.returns-in-Level-clause-items
returns-in-Level-clause-items c = search rules
