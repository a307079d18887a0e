use Rattle.std.proofs.Common.{◌≡◌, drop}
use Rattle.ec_loads.specs.Cost.{items}
use Rattle.ec_loads.specs.Rooms.{is_open}
use Rattle.ec_bounds.proofs.rooms.is_open.Given as goal

abbrev pub invariant-loop-i : goal.invariant-loop-i
invariant-loop-i l = is_open (items (drop l.i l.all) (drop l.i l.places)) l.period l.phase ≡ is_open (items l.all l.places) l.period l.phase
