use Rattle.std.proofs.Common.{rules}
use Rattle.ec_checker.proofs.shown.most_level.Goals as goal

pub returns-in-None : goal.returns-in-None
returns-in-None c = search rules

pub returns-in-Some : goal.returns-in-Some
returns-in-Some c = search rules
