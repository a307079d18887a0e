use Rattle.std.proofs.Common.{◌≡◌, ℕ, ◌<◌, ◌||◌, false, get_or, drop}
use Rattle.ec_loads.specs.Cost.{items}
use Rattle.ec_loads.specs.Rooms.{is_open}
use Rattle.ec_bounds.proofs.rooms.open_classes.Given as goal

abbrev pub invariant-loop-i : goal.invariant-loop-i
invariant-loop-i l = (f : ℕ) → f < 60 → (get_or l.opens f false || is_open (items (drop l.i l.all) (drop l.i l.places)) l.period f) ≡ is_open (items l.all l.places) l.period f
