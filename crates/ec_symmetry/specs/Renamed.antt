-- Slots renamed by their first use.
use Rattle.std.specs.Prelude.{◌≡◌, ℕ, suc, ◌==◌, if◌then◌else◌, nat_lt, List, [], ◌∷◌, map, get_or}
use Rattle.ec_units.specs.declared.slave.Place.{Place}
use Rattle.ec_loads.specs.Search.{nowhere}

-- the slot that s becomes where a and b are exchanged
abbrev pub swap : ℕ → ℕ → ℕ → ℕ
swap a b s = if s == a then b else (if s == b then a else s)

abbrev pub swap_place : ℕ → ℕ → Place → Place
swap_place a b p = record { phase = p.phase; slot = swap a b p.slot }

-- the places where slots a and b are exchanged
abbrev pub swap_slots : ℕ → ℕ → List Place → List Place
swap_slots a b plan = map (swap_place a b) plan

-- the plan where, unit by unit in this order, a slot that no unit before it uses becomes the least such one, k; the slots below k are in use already
abbrev pub renamed : ℕ → List ℕ → List Place → List Place
renamed k [] plan = plan
renamed k (u ∷ order) plan =
    if nat_lt (get_or plan u nowhere).slot k then renamed k order plan else renamed (suc k) order (swap_slots k (get_or plan u nowhere).slot plan)

-- the other plan has the same phases, and the slots of the plan by other names, different ones for different slots
pub record IsRenamed (plan other : List Place) : Type 0 where
  pub name : ℕ → ℕ
  pub apart : (s t : ℕ) → name s ≡ name t → s ≡ t
  pub is : other ≡ map (λ p. record { phase = p.phase; slot = name p.slot }) plan
