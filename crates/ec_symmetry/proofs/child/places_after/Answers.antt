use Rattle.std.proofs.Common.{rules}
use Rattle.ec_symmetry.proofs.child.places_after.Goals as goal

pub returns : goal.returns
returns c = search rules
