-- The greatest level that a tree with open leaves shows.
use Rattle.std.specs.Prelude.{ℕ, ◌<◌, ◌≤◌, ◌↔◌, All, List, Option, Some}
use Rattle.ec_units.specs.declared.unit.Load.{Load}
use Rattle.ec_loads.specs.Cost.{items}
use Rattle.ec_loads.specs.Held.{no_places}
use Rattle.ec_loads.specs.Line.{Line}
use Rattle.ec_loads.specs.Search.{Prefix, LevelHolds, IsTreeAbove, TreeWith, TreesWith, ShowsLevel, children}
use Rattle.ec_loads.specs.Shape.{Shape, Shapes}

-- of the levels of at most 12304 that the tree shows at the empty prefix it is the greatest; 12304 is what eight slots cost at most
pub record IsGreatestLevel (line : Line) (v : Option ℕ) (tree : Shape) (order : List ℕ) (l : ℕ) : Type 0 where
  pub range : l ≤ 12304
  pub shows : ShowsLevel line v l tree (no_places line.loads) order
  pub greatest : (m : ℕ) → m ≤ 12304 → ShowsLevel line v m tree (no_places line.loads) order → m ≤ l

-- of the levels up to a greatest one, those up to a lower one are the ones that hold at each open leaf, whatever the value at which the closed ones hold
abbrev pub IsLowered : Line → Shape → Prefix → List ℕ → ℕ → ℕ → Type 0
IsLowered line tree ps order most least =
    (v : Option ℕ) → TreeWith (λ _ _. Unit {0}) line v tree ps order → (m : ℕ) → ((m ≤ least) ↔ ((m ≤ most) × IsTreeAbove line v (Some m) tree ps order))

-- of the levels up to a greatest one, those that hold at each open leaf of the trees for the children of a unit are at most a lower one
abbrev pub AreAtMost : Line → Shapes → Prefix → ℕ → ℕ → ℕ → Type 0
AreAtMost line ss ps u most least =
    (v : Option ℕ) (order : List ℕ) (m : ℕ) → m ≤ most → TreesWith (λ qs _. LevelHolds line (Some m) qs) line v ss ps u order (children line ps u) → m ≤ least

-- the slots of a prefix are below the slot count
abbrev pub AreIn : ℕ → List Load → Prefix → Type 0
AreIn n ls ps = All (λ x. x.slot < n) (items ls ps)
