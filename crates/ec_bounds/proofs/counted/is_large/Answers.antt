use Rattle.std.proofs.Common.{rules}
use Rattle.ec_bounds.proofs.counted.is_large.Goals as goal

pub returns-then-load-period : goal.returns-then-load-period
returns-then-load-period c = search rules
