use Rattle.std.proofs.Common.{rules}
use Rattle.ec_bounds.proofs.weight.known_weight.Goals as goal

pub returns-clause-known : goal.returns-clause-known
returns-clause-known c = search rules
