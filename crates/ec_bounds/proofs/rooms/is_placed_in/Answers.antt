use Rattle.std.proofs.Common.{rules}
use Rattle.ec_bounds.proofs.rooms.is_placed_in.Goals as goal

pub returns-then-period-load : goal.returns-then-period-load
returns-then-period-load c = search rules
