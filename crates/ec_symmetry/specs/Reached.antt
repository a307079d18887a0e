-- Plans that the children reach, and plans with renamed slots.
use Rattle.std.specs.Prelude.{◌≡◌, ℕ, ◌<◌, List, [], ◌∷◌, length, set, get_or, Some, All, ◌↔◌, ◌==◌, true}
use Rattle.std.specs.List.{list_any}
use Rattle.ec_units.specs.declared.slave.Place.{Place}
use Rattle.ec_units.specs.declared.unit.Load.{Load}
use Rattle.ec_loads.specs.Cost.{plan_items, tick_cost}
use Rattle.ec_loads.specs.Held.{no_places}
use Rattle.ec_loads.specs.Legal.{IsLegal}
use Rattle.ec_loads.specs.Line.{slots_alone, Line, line_by}
use Rattle.ec_loads.specs.Search.{Prefix, slots_in, used, nowhere, children}

-- x is an element of the list, by cases
pub data In {A : Type 0} : A → List A → Type 0 where
  here : {x : A} {xs : List A} → In x (x ∷ xs)
  there : {x y : A} {xs : List A} → In x xs → In x (y ∷ xs)

-- from a prefix on, each unit of the order stands in the plan at a child of the prefix that the units before it made
abbrev pub IsCanonical : Line → Prefix → List ℕ → List Place → Type 0
IsCanonical line ps [] plan = Unit {0}
IsCanonical line ps (u ∷ order) plan =
    In (get_or plan u nowhere) (children line ps u) × IsCanonical line (set ps u (Some (get_or plan u nowhere))) order plan

-- the children reach the plan from the empty prefix, unit by unit in this order
abbrev pub IsReached : Line → List ℕ → List Place → Type 0
IsReached line order plan = IsCanonical line (no_places line.loads) order plan

-- one place for each load, within its ranges
pub record IsInRange (loads : List Load) (n : ℕ) (plan : List Place) : Type 0 where
  pub whole : length plan ≡ length loads
  pub phases : All (λ x. x.phase < x.period) (plan_items loads plan)
  pub slots : All (λ x. x.slot < n) (plan_items loads plan)

-- both plans cost the same in every tick
abbrev pub CostsAlike : List Load → ℕ → List Place → List Place → Type 0
CostsAlike loads n a b = (t : ℕ) → tick_cost (plan_items loads a) n t ≡ tick_cost (plan_items loads b) n t

-- for every legal plan there is a legal plan that the children by slots alone reach in the given order, of equal cost in every tick
abbrev pub EveryPlanIsReached : Type 0
EveryPlanIsReached =
    (loads : List Load) (n : ℕ) (order : List ℕ) (plan : List Place) → All (λ u. u < length loads) order → IsLegal loads n plan →
    (other : List Place) × IsLegal loads n other × CostsAlike loads n other plan × IsReached (line_by slots_alone loads n) order other

-- each tick of the one plan costs what some tick of the other costs
abbrev pub CostsWithin : List Load → ℕ → List Place → List Place → Type 0
CostsWithin loads n a b = (t : ℕ) → (i : ℕ) × (tick_cost (plan_items loads a) n t ≡ tick_cost (plan_items loads b) n i)

-- a prefix where the units of the order got the plan's places, too
abbrev pub placed : Prefix → List ℕ → List Place → Prefix
placed ps [] plan = ps
placed ps (u ∷ order) plan = placed (set ps u (Some (get_or plan u nowhere))) order plan

-- by any rules a prefix that the children reach uses the slots 0, 1, .. without a gap: those below the number of its different slots
abbrev pub SlotsHaveNoGap : Type 0
SlotsHaveNoGap =
    (line : Line) (order : List ℕ) (plan : List Place) (s : ℕ) →
    All (λ u. u < length line.loads) order → length plan ≡ length line.loads → IsReached line order plan →
    (s < used (placed (no_places line.loads) order plan)) ↔ (list_any (λ m. s == m) (slots_in (placed (no_places line.loads) order plan)) ≡ true)
