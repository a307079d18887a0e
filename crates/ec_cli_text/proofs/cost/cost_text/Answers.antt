use Rattle.std.proofs.Common.{rules}
use Rattle.ec_cli_text.proofs.cost.cost_text.Goals as goal

pub returns : goal.returns
returns c = search rules
