use Rattle.std.proofs.Common.{◌≡◌, ℕ, ◌<◌, ◌||◌, false, get_or, drop}
use Rattle.std.specs.List.{list_any}
use Rattle.ec_loads.specs.Rooms.{has_period}
use Rattle.ec_bounds.proofs.grouped.periods_seen.Given as goal

abbrev pub invariant-loop-i : goal.invariant-loop-i
invariant-loop-i l = (p : ℕ) → p < 61 → (get_or l.seen p false || list_any (has_period p) (drop l.i l.left)) ≡ list_any (has_period p) l.left
