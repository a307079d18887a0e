use Rattle.std.proofs.Common.{rules}
use Rattle.ec_symmetry.proofs.child.width_of.Goals as goal

pub returns-else-slots-used : goal.returns-else-slots-used
returns-else-slots-used c = search rules
