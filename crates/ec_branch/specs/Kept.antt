-- The plan that keeps the places of the units.
use Rattle.std.specs.Prelude.{◌≡◌, ℕ, slice_get, Some}
use Rattle.ec_units.specs.declared.slave.Place.{Place}
use Rattle.ec_loads.specs.Search.{Prefix}

-- each unit with a place in the one prefix has it in the other, too
abbrev pub Keeps : Prefix → Prefix → Type 0
Keeps from to = (k : ℕ) (p : Place) → slice_get from k ≡ Some (Some p) → slice_get to k ≡ Some (Some p)
