use Rattle.std.proofs.Common.{rules}
use Rattle.ec_cert.proofs.ranges.is_level.Goals as goal

pub returns-then-version-le2 : goal.returns-then-version-le2
returns-then-version-le2 c = search rules

pub returns-else-version-le2 : goal.returns-else-version-le2
returns-else-version-le2 c = search rules

pub returns-then-version-ge3 : goal.returns-then-version-ge3
returns-then-version-ge3 c = search rules

pub returns-else-version-ge3 : goal.returns-else-version-ge3
returns-else-version-ge3 c = search rules
