-- Plans that are bettered step by step.
use Rattle.std.specs.Prelude.{◌≡◌, ℕ, ◌<◌, ◌≤◌, List, length, get_or, slice_get, Option, Some, IfSome}
use Rattle.ec_units.specs.declared.slave.Place.{Place}
use Rattle.ec_units.specs.declared.unit.Load.{Load}
use Rattle.ec_loads.specs.Cost.{plan_items, IsBusiest}
use Rattle.ec_loads.specs.Legal.{IsLegal}
use Rattle.ec_loads.specs.Search.{Prefix, nobody, nowhere}
use Rattle.ec_branch.specs.Greedy.{IsGreedyPlan}

-- phase 0 and slot 0
abbrev pub first_place : Place
first_place = record { phase = 0; slot = 0 }

-- a place within the ranges of a unit
abbrev pub IsWithinRange : List Load → ℕ → ℕ → Place → Type 0
IsWithinRange loads n u p = (p.phase < (get_or loads u nobody).period) × (p.slot < n)

-- for each unit a place within its ranges
abbrev pub AreWithinRanges : List Load → ℕ → List Place → Type 0
AreWithinRanges loads n places = (length places ≡ length loads) × ((u : ℕ) → u < length loads → IsWithinRange loads n u (get_or places u nowhere))

-- a unit has a place, which is within its ranges
abbrev pub HasPlace : List Load → ℕ → Prefix → ℕ → Type 0
HasPlace loads n ps u = (p : Place) × (slice_get ps u ≡ Some (Some p)) × IsWithinRange loads n u p

-- each of the first k units has a place
abbrev pub ArePlaced : List Load → ℕ → Prefix → ℕ → Type 0
ArePlaced loads n ps k = (length ps ≡ length loads) × ((u : ℕ) → u < k → HasPlace loads n ps u)

-- each unit has a place
abbrev pub AreAllPlaced : List Load → ℕ → Prefix → Type 0
AreAllPlaced loads n ps = ArePlaced loads n ps (length loads)

-- the busiest tick of a plan costs at most what that of another one costs
pub record IsNoDearer (loads : List Load) (n : ℕ) (plan other : List Place) : Type 0 where
  pub cost : ℕ
  pub bound : ℕ
  pub busiest : IsBusiest (plan_items loads plan) n cost
  pub busiest_other : IsBusiest (plan_items loads other) n bound
  pub low : cost ≤ bound

-- a cost that is there, and at most that of the plan's busiest tick
abbrev pub IsNoHigher : List Load → ℕ → Option ℕ → List Place → Type 0
IsNoHigher loads n cost plan = (c b : ℕ) × (cost ≡ Some c) × IsBusiest (plan_items loads plan) n b × (c ≤ b)

-- where there is a cost, it is that of the busiest tick of the places, which are a legal plan; and where there is a greedy plan, there is a cost, and no higher one
pub record IsBestSoFar (loads : List Load) (n : ℕ) (cost : Option ℕ) (places : List Place) : Type 0 where
  pub kept : IfSome cost (λ c. IsLegal loads n places × IsBusiest (plan_items loads places) n c)
  pub greedy : (plan : List Place) → IsGreedyPlan loads n plan → IsNoHigher loads n cost plan
