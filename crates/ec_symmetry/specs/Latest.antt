-- The greatest place of the units that are equal to one.
use Rattle.std.specs.Prelude.{◌≡◌, ℕ, ◌||◌, List, [], ◌∷◌, set, slice_get, Option, Some, None}
use Rattle.ec_units.specs.declared.slave.Place.{Place}
use Rattle.ec_units.specs.declared.unit.Load.{Load}
use Rattle.ec_loads.specs.Line.{Line}
use Rattle.ec_loads.specs.Search.{Prefix, children}
use Rattle.ec_loads.specs.Strong.{is_below, has_equal_above}
use Rattle.ec_symmetry.specs.Reached.{In}

-- the places that are below q, by phase and then slot, are those with an equal unit above them
abbrev pub IsLatest : Load → List Load → Prefix → Place → Type 0
IsLatest l loads ps q = (p : Place) → has_equal_above l p loads ps ≡ is_below p q

-- r is q, or the place of one more unit that is equal where that is above q
abbrev pub IsLater : Load → Load → Option Place → Place → Place → Type 0
IsLater l m o q r = (p : Place) → is_below p r ≡ (has_equal_above l p (m ∷ []) (o ∷ []) || is_below p q)

-- the unit that got its place last, if one is named, got a child of the prefix without it
abbrev pub IsLastChild : Line → Prefix → Option ℕ → Type 0
IsLastChild line ps None = Unit {0}
IsLastChild line ps (Some u) = (before : Prefix) × (p : Place) × (slice_get before u ≡ Some None) × In p (children line before u) × (ps ≡ set before u (Some p))
