-- The greedy plan: unit by unit the first child of least busiest tick.
use Rattle.std.specs.Prelude.{◌≡◌, ℕ, ◌<◌, ◌≤◌, ◌⊎◌, ◌++◌, List, [], ◌∷◌, map, set, Some, All}
use Rattle.ec_units.specs.declared.slave.Place.{Place}
use Rattle.ec_units.specs.declared.unit.Load.{Load}
use Rattle.ec_loads.specs.declared.item.Item.{Item}
use Rattle.ec_loads.specs.Cost.{items, IsBusiest}
use Rattle.ec_loads.specs.Held.{no_places}
use Rattle.ec_loads.specs.Legal.{Fits}
use Rattle.ec_loads.specs.Line.{slots_alone, line_by}
use Rattle.ec_loads.specs.Search.{Prefix, children}
use Rattle.ec_branch.specs.Weights.{IsSearchOrder}

-- the items of a prefix where one more unit has this place
abbrev pub items_at : List Load → Prefix → ℕ → Place → List Item
items_at loads ps u p = items loads (set ps u (Some p))

-- with the unit at this place, a payload is too large
abbrev pub IsTooFull : List Load → ℕ → Prefix → ℕ → Place → Type 0
IsTooFull loads n ps u p = ¬ (Fits (items_at loads ps u p) n)

-- with the unit at this place every payload is small enough, and the busiest tick costs b
pub record FitsAt (loads : List Load) (n : ℕ) (ps : Prefix) (u : ℕ) (p : Place) (b : ℕ) : Type 0 where
  pub fits : Fits (items_at loads ps u p) n
  pub busiest : IsBusiest (items_at loads ps u p) n b

-- the place among these that keeps every payload small enough and has the least busiest tick, and of several such places the first
pub record IsBestAmong (loads : List Load) (n : ℕ) (ps : Prefix) (u : ℕ) (among : List Place) (p : Place) : Type 0 where
  pub cost : ℕ
  pub fits : FitsAt loads n ps u p cost
  pub before : List Place
  pub after : List Place
  pub child : among ≡ before ++ p ∷ after
  pub earlier : All (λ q. (b : ℕ) → FitsAt loads n ps u q b → cost < b) before
  pub later : All (λ q. (b : ℕ) → FitsAt loads n ps u q b → cost ≤ b) after

-- the best child by the rules of slots alone
abbrev pub IsBestChild : List Load → ℕ → Prefix → ℕ → Place → Type 0
IsBestChild loads n ps u = IsBestAmong loads n ps u (children (line_by slots_alone loads n) ps u)

-- from a prefix on, each unit of the order at its best child leads to the other prefix
abbrev pub IsGreedyTo : List Load → ℕ → Prefix → List ℕ → Prefix → Type 0
IsGreedyTo loads n ps [] end = ps ≡ end
IsGreedyTo loads n ps (u ∷ order) end = (p : Place) × IsBestChild loads n ps u p × IsGreedyTo loads n (set ps u (Some p)) order end

-- from a prefix on, each unit of the order at its best child leads to a unit of which every child is too full
abbrev pub IsStuck : List Load → ℕ → Prefix → List ℕ → Type 0
IsStuck loads n ps [] = ⊥
IsStuck loads n ps (u ∷ order) =
    All (IsTooFull loads n ps u) (children (line_by slots_alone loads n) ps u) ⊎ ((p : Place) × IsBestChild loads n ps u p × IsStuck loads n (set ps u (Some p)) order)

-- the plan that the units at their best children make, in the order of the search
pub record IsGreedyPlan (loads : List Load) (n : ℕ) (plan : List Place) : Type 0 where
  pub order : List ℕ
  pub sorted : IsSearchOrder loads order
  pub steps : IsGreedyTo loads n (no_places loads) order (map Some plan)

-- in the order of the search there is no such plan
pub record HasNoGreedyPlan (loads : List Load) (n : ℕ) : Type 0 where
  pub order : List ℕ
  pub sorted : IsSearchOrder loads order
  pub stuck : IsStuck loads n (no_places loads) order
