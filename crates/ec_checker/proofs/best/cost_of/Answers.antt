use Rattle.std.proofs.Common.{rules}
use Rattle.ec_checker.proofs.best.cost_of.Goals as goal

pub returns-clause-ok : goal.returns-clause-ok
returns-clause-ok c = search rules
