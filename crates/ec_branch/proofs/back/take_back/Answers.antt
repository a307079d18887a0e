use Rattle.std.proofs.Common.{rules}
use Rattle.ec_branch.proofs.back.take_back.Goals as goal

pub returns-clause-loads : goal.returns-clause-loads
returns-clause-loads c = search rules
