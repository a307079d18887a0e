use Rattle.std.proofs.Common.{rules}
use Rattle.ec_symmetry.proofs.strong.is_equal.Goals as goal

pub returns-then-first-second : goal.returns-then-first-second
returns-then-first-second c = search rules
