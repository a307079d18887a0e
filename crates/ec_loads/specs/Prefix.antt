-- Prefixes of plans, the slots that they use, and the places that a unit can try after them.
use Rattle.std.specs.Prelude.{ℕ, suc, ◌+◌, ◌==◌, if◌then◌else◌, min, Bool, true, false, List, [], ◌∷◌, map, Option, Some, None}
use Rattle.std.specs.List.{list_any, flat_map, range_with_len}
use Rattle.ec_units.specs.declared.slave.Place.{Place}
use Rattle.ec_units.specs.declared.unit.Load.{Load}

-- a place for some of the loads, in file order
abbrev pub Prefix : Type 0
Prefix = List (Option Place)

-- a plan, or a longer prefix, extends a prefix: both agree where the prefix has a place
pub data Extends : Prefix → Prefix → Type 0 where
  done : Extends [] []
  free : {ps qs : Prefix} {q : Option Place} → Extends ps qs → Extends (None ∷ ps) (q ∷ qs)
  same : {ps qs : Prefix} {p : Option Place} → Extends ps qs → Extends (p ∷ ps) (p ∷ qs)

-- the slots that a prefix uses, one for each unit that has a place
abbrev pub slots_in : Prefix → List ℕ
slots_in [] = []
slots_in (None ∷ ps) = slots_in ps
slots_in (Some p ∷ ps) = p.slot ∷ slots_in ps

-- how many different numbers a list has
abbrev pub different_numbers : List ℕ → ℕ
different_numbers [] = 0
different_numbers (n ∷ ns) = (if list_any (λ m. n == m) ns then 0 else 1) + different_numbers ns

-- how many different slots a prefix uses
abbrev pub used : Prefix → ℕ
used ps = different_numbers (slots_in ps)

abbrev pub nobody : Load
nobody = record { bytes = 0; period = 0 }

abbrev pub nowhere : Place
nowhere = record { phase = 0; slot = 0 }

-- the places of a unit of this period where so many slots are used: each phase, with each slot from 0 to that number, below n
abbrev pub places_for : ℕ → ℕ → ℕ → List Place
places_for period n used =
    flat_map (λ f. map (λ s. record { phase = f; slot = s }) (range_with_len 0 (min (suc used) n))) (range_with_len 0 period)

-- whether the prefix gives no unit a place
abbrev pub has_no_place : Prefix → Bool
has_no_place [] = true
has_no_place (None ∷ ps) = has_no_place ps
has_no_place (Some p ∷ ps) = false
