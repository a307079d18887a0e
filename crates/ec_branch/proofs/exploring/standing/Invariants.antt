use Rattle.std.proofs.Common.{◌≡◌, ℕ, ◌<◌, get_or, slice_get, Some}
use Rattle.ec_units.specs.declared.slave.Place.{Place as PlaceSpec}
use Rattle.ec_branch.proofs.exploring.standing.Given as goal

abbrev pub invariant-loop-i : goal.invariant-loop-i
invariant-loop-i l = (j : ℕ) (e : PlaceSpec) → j < l.i → slice_get l.loads.places (get_or l.order j 0) ≡ Some (Some (get_or l.prefix j e))
