-- Orders of the units, and the prefixes that they make.
use Rattle.std.specs.Prelude.{◌≡◌, ℕ, ◌<◌, ◌==◌, Bool, false, List, [], ◌∷◌, length, set, Some, All}
use Rattle.ec_units.specs.declared.slave.Place.{Place}
use Rattle.ec_units.specs.declared.unit.Load.{Load}
use Rattle.ec_units.specs.Together.{has_same}
use Rattle.ec_loads.specs.Held.{AreLoads, no_places}
use Rattle.ec_loads.specs.Legal.{IsLegal}
use Rattle.ec_loads.specs.Line.{Line}
use Rattle.ec_loads.specs.Search.{Prefix, children}
use Rattle.ec_symmetry.specs.Reached.{In, CostsWithin, IsReached}

-- two of these numbers are one
abbrev pub has_repeat : List ℕ → Bool
has_repeat order = has_same (λ a b. a == b) order

-- each of so many units once
pub record IsOrder (units : ℕ) (order : List ℕ) : Type 0 where
  pub count : length order ≡ units
  pub below : All (λ u. u < units) order
  pub once : has_repeat order ≡ false

-- a prefix where, in turn, the next units of the order got these places, too
abbrev pub with_places : Prefix → List ℕ → List Place → Prefix
with_places ps order [] = ps
with_places ps [] (p ∷ places) = ps
with_places ps (u ∷ order) (p ∷ places) = with_places (set ps u (Some p)) order places

-- the prefix where the first units of the order have these places
abbrev pub prefix_of : List Load → List ℕ → List Place → Prefix
prefix_of loads order places = with_places (no_places loads) order places

-- in turn, each place is a child of the prefix that the places before it made
abbrev pub AreChildren : Line → Prefix → List ℕ → List Place → Type 0
AreChildren line ps order [] = Unit {0}
AreChildren line ps [] (p ∷ places) = ⊥
AreChildren line ps (u ∷ order) (p ∷ places) = In p (children line ps u) × AreChildren line (set ps u (Some p)) order places

-- the children reach the prefix where the first units of the order have these places
abbrev pub IsReachedPrefix : Line → List ℕ → List Place → Type 0
IsReachedPrefix line order places = AreChildren line (no_places line.loads) order places

-- by any rules, for every legal plan and every order of the units there is a legal plan that the children reach in that order, and each of its ticks costs
-- what some tick of the plan costs. So where some legal plan costs less than a value in every tick, one that is reached does, too
abbrev pub EveryPlanIsReachedBy : Type 0
EveryPlanIsReachedBy =
    (line : Line) (order : List ℕ) (plan : List Place) → AreLoads line.loads → IsOrder (length line.loads) order → IsLegal line.loads line.slots plan →
    (other : List Place) × IsLegal line.loads line.slots other × CostsWithin line.loads line.slots other plan × IsReached line order other
