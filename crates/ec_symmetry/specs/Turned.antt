-- Plans that are sent earlier, and the plan that the children reach where time is turned.
use Rattle.std.specs.Prelude.{◌≡◌, ℕ, ◌+◌, ◌-◌, ◌%◌, Bool, false, if◌then◌else◌, List, [], ◌∷◌, get_or, ◌↔◌}
use Rattle.ec_units.specs.declared.slave.Place.{Place}
use Rattle.ec_units.specs.declared.unit.Load.{Load}
use Rattle.ec_loads.specs.Cost.{plan_items, IsBusiest}
use Rattle.ec_loads.specs.Search.{nowhere}
use Rattle.ec_symmetry.specs.Reached.{CostsAlike, CostsWithin}

-- the phase of what is sent d ticks earlier
abbrev pub earlier : ℕ → ℕ → ℕ → ℕ
earlier d period phase = (phase + (period - d % period)) % period

abbrev pub earlier_place : ℕ → Load → Place → Place
earlier_place d l p = record { phase = earlier d l.period p.phase; slot = p.slot }

-- the plan that is sent d ticks earlier
abbrev pub earlier_plan : ℕ → List Load → List Place → List Place
earlier_plan d [] places = []
earlier_plan d (l ∷ ls) [] = []
earlier_plan d (l ∷ ls) (p ∷ ps) = earlier_place d l p ∷ earlier_plan d ls ps

-- the phase of the first unit of an order
abbrev pub first_phase : List ℕ → List Place → ℕ
first_phase [] plan = 0
first_phase (u ∷ order) plan = (get_or plan u nowhere).phase

-- the plan itself, or where time is turned the plan sent earlier by the phase of the first unit, which then has phase 0
abbrev pub turned_plan : Bool → List Load → List ℕ → List Place → List Place
turned_plan turned loads order plan = if turned then earlier_plan (first_phase order plan) loads plan else plan

-- what two plans cost is the same, tick by tick or, where one is sent earlier, at other ticks
pub record CostsAsPlan (turned : Bool) (loads : List Load) (n : ℕ) (other plan : List Place) : Type 0 where
  pub within : CostsWithin loads n other plan
  pub back : CostsWithin loads n plan other
  pub alike : turned ≡ false → CostsAlike loads n other plan
  pub busiest : (b : ℕ) → IsBusiest (plan_items loads other) n b ↔ IsBusiest (plan_items loads plan) n b
