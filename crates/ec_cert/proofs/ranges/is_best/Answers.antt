use Rattle.std.proofs.Common.{rules}
use Rattle.ec_cert.proofs.ranges.is_best.Goals as goal

pub returns-then-places-units : goal.returns-then-places-units
returns-then-places-units c = search rules
