use Rattle.std.proofs.Common.{rules}
use Rattle.ec_cert.proofs.ranges.well_formed.Goals as goal

pub returns-then-is_level : goal.returns-then-is_level
returns-then-is_level c = search rules
