use Rattle.std.proofs.Common.{rules}
use Rattle.ec_bounds.proofs.bound.full_bound.Goals as goal

pub returns : goal.returns
returns c = search rules
