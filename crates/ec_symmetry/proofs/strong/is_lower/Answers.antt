use Rattle.std.proofs.Common.{rules}
use Rattle.ec_symmetry.proofs.strong.is_lower.Goals as goal

pub returns-then-first-second-2 : goal.returns-then-first-second-2
returns-then-first-second-2 c = search rules
