-- The places of a unit that are still to come, in child order.
use Rattle.std.specs.Prelude.{ℕ, zero, suc, ◌+◌, ◌-◌, List, [], ◌++◌, map}
use Rattle.std.specs.List.{flat_map, range_with_len}
use Rattle.ec_units.specs.declared.slave.Place.{Place}

-- the places of one phase in so many slots, from a first one on
abbrev pub row : ℕ → ℕ → ℕ → List Place
row phase first count = map (λ s. record { phase = phase; slot = s }) (range_with_len first count)

-- the places from a phase and a slot on, where each phase has `width` slots; the last argument counts the phases that are left, this one among them
abbrev pub places_left : ℕ → ℕ → ℕ → ℕ → List Place
places_left width phase slot zero = []
places_left width phase slot (suc later) = row phase slot (width - slot) ++ flat_map (λ f. row f 0 width) (range_with_len (phase + 1) later)
