use Rattle.std.proofs.Common.{rules}
use Rattle.ec_bounds.proofs.merged.is_above_slot_0.Goals as goal

pub returns-in-Some : goal.returns-in-Some
returns-in-Some c = search rules
