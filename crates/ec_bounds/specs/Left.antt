-- Which units have no place yet.
use Rattle.std.specs.Prelude.{◌≡◌, ℕ, ◌+◌, ◌*◌, ◌/◌, ◌<◌, ◌≤◌, Bool, true, false, is_none, if◌then◌else◌, List, [], ◌∷◌, length, map, get_or, Option, Some, None}
use Rattle.ec_units.specs.declared.slave.Place.{Place}
use Rattle.ec_units.specs.declared.unit.Load.{Load}
use Rattle.ec_loads.specs.Cost.{item}
use Rattle.ec_loads.specs.Held.{Held}
use Rattle.ec_loads.specs.Rooms.{is_of_class}
use Rattle.ec_loads.specs.Search.{nobody}
use Rattle.ec_loads.specs.Weights.{least_weight}

-- the loads in file order, and for each whether it has no place
pub record Left : Type 0 where
  pub loads : List Load
  pub unplaced : List Bool

-- the bytes that the loads without a place send in h ticks
abbrev pub demand_of : List Load → List Bool → ℕ → ℕ
demand_of [] bs h = 0
demand_of (l ∷ ls) [] h = 0
demand_of (l ∷ ls) (b ∷ bs) h = (if b then l.bytes * (h / l.period) else 0) + demand_of ls bs h

-- the bytes of the loads without a place, each by the least weights that it can travel in
abbrev pub weighted_left : List Load → List Bool → List ℕ → ℕ → ℕ
weighted_left [] bs w h = 0
weighted_left (l ∷ ls) [] w h = 0
weighted_left (l ∷ ls) (b ∷ bs) w h = (if b then l.bytes * least_weight w h l.period else 0) + weighted_left ls bs w h

-- of the periods from 0 on, what is known of their least weights is so
abbrev pub AreLeast : List ℕ → List (Option ℕ) → Type 0
AreLeast w known = (p v : ℕ) → get_or known p None ≡ Some v → (v ≡ least_weight w (length w) p) × (v ≤ 67107840)

-- none has a place
abbrev pub all_of : List Load → List Bool
all_of loads = map (λ _. true) loads

-- it names the units that the loads don't hold
pub record IsRestOf (left : Left) (held : Held) : Type 0 where
  pub loads : left.loads ≡ held.loads
  pub unplaced : left.unplaced ≡ map (λ p. is_none p) held.places

-- what a load sends in h ticks
abbrev pub product : ℕ → Load → ℕ
product h l = l.bytes * (h / l.period)

-- the first n numbers are what the first n loads send in h ticks, one by one
abbrev pub AreSent : ℕ → ℕ → List Load → List ℕ → Type 0
AreSent h n loads sent = (i : ℕ) → i < n → get_or sent i 0 ≡ product h (get_or loads i nobody)

-- the loads without a place, in file order
abbrev pub left_loads : List Load → List Bool → List Load
left_loads [] bs = []
left_loads (l ∷ ls) [] = []
left_loads (l ∷ ls) (b ∷ bs) = if b then l ∷ left_loads ls bs else left_loads ls bs

-- whether a load has a place, by which it is of a class
abbrev pub is_placed_in : ℕ → ℕ → Load → Option Place → Bool
is_placed_in p f l None = false
is_placed_in p f l (Some place) = is_of_class p f (item l place)
