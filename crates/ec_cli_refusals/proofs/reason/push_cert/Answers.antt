use Rattle.std.proofs.Common.{rules}
use Rattle.ec_cli_refusals.proofs.reason.push_cert.Goals as goal

pub returns-in-Early-clause-items : goal.returns-in-Early-clause-items
returns-in-Early-clause-items c = search rules
