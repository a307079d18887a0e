use Rattle.std.proofs.Common.{rules}
use Rattle.ec_player.proofs.trips.start_want.Goals as goal

pub returns-then-i-eq0 : goal.returns-then-i-eq0
returns-then-i-eq0 c = search rules
