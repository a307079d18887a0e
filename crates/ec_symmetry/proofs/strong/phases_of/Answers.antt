use Rattle.std.proofs.Common.{rules}
use Rattle.ec_symmetry.proofs.strong.phases_of.Goals as goal

pub returns : goal.returns
returns c = search rules
