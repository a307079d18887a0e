use Rattle.std.proofs.Common.{rules}
use Rattle.ec_cli_text.proofs.outcome.push_level.Goals as goal

pub returns-in-Some : goal.returns-in-Some
returns-in-Some c = search rules
