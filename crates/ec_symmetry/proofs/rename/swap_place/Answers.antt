use Rattle.std.proofs.Common.{rules}
use Rattle.ec_symmetry.proofs.rename.swap_place.Goals as goal

pub returns-else-place-second : goal.returns-else-place-second
returns-else-place-second c = search rules
