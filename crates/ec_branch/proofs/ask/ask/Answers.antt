use Rattle.std.proofs.Common.{rules}
use Rattle.ec_branch.proofs.ask.ask.Goals as goal

pub returns-clause-asked : goal.returns-clause-asked
returns-clause-asked g c = search rules
