use Rattle.std.proofs.Common.{rules}
use Rattle.ec_checker.proofs.leaf.level_holds.Goals as goal

pub returns-else-tick_reaches : goal.returns-else-tick_reaches
returns-else-tick_reaches c = search rules
