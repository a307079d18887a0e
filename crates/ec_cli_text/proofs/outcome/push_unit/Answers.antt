use Rattle.std.proofs.Common.{rules}
use Rattle.ec_cli_text.proofs.outcome.push_unit.Goals as goal

pub returns : goal.returns
returns c = search rules
