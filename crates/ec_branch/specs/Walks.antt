-- What a walk below a prefix gives.
use Rattle.std.specs.Prelude.{◌≡◌, ℕ, ◌+◌, ◌<◌, ◌⊎◌, List, [], ◌∷◌, map, set, get_or, slice_get, Option, Some, None, Bool, true, false}
use Rattle.ec_units.specs.declared.slave.Place.{Place}
use Rattle.ec_units.specs.declared.unit.Load.{Load}
use Rattle.ec_loads.specs.Line.{Line}
use Rattle.ec_loads.specs.Shape.{Shape, Shapes}
use Rattle.ec_loads.specs.Search.{Prefix, nobody, TreeWith, TreesWith, HasShortTicks, HaveShortTicks, IsAtMost, open_count, open_counts, node_count, node_counts}
use Rattle.ec_cert.specs.declared.tree.Tree.{Tree}
use Rattle.ec_cert.specs.Shapes.{shapes_of}
use Rattle.ec_symmetry.specs.Reached.{IsInRange}
use Rattle.ec_branch.specs.Frames.{IsFair}

-- a tree whose closed leaves hold at the value; of an open leaf nothing is asked
abbrev pub HoldsAt : Line → Option ℕ → Shape → Prefix → List ℕ → Type 0
HoldsAt line v tree ps order = TreeWith (λ _ _. Unit {0}) line v tree ps order

-- the order names the units without a place, each once, and every place within its ranges leads on; without a unit left there is a plan within its ranges
abbrev pub IsReadyFor : List Load → ℕ → Prefix → List ℕ → Type 0
IsReadyFor loads n ps [] = (plan : List Place) × (ps ≡ map Some plan) × IsInRange loads n plan
IsReadyFor loads n ps (u ∷ order) =
    (slice_get ps u ≡ Some None)
    × ((p : Place) → p.phase < (get_or loads u nobody).period → p.slot < n → IsReadyFor loads n (set ps u (Some p)) order)

-- a leaf that closes a prefix at the value, and so at each value below it
pub record IsClosing (line : Line) (v : Option ℕ) (ps : Prefix) (tree : Shape) : Type 0 where
  pub one : node_count tree ≡ 1
  pub whole : open_count tree ≡ 0
  pub short : HasShortTicks tree
  pub holds : (w : Option ℕ) → IsAtMost w v → (order : List ℕ) → HoldsAt line w tree ps order

-- an open leaf is there only for want of nodes or by a stop
abbrev pub HasCause : ℕ → ℕ → Bool → Type 0
HasCause count left halted = (count ≡ 0) ⊎ (left ≡ 0) ⊎ (halted ≡ true)

-- a walk from the value `was` with `had` nodes to the value `now` with `left` nodes: the tree holds at each value up to `now`
pub record IsWalked (line : Line) (floor : ℕ) (ps : Prefix) (order : List ℕ) (was : Option ℕ) (had : ℕ) (now : Option ℕ) (left : ℕ) (halted : Bool) (tree : Shape) : Type 0 where
  pub holds : (w : Option ℕ) → IsAtMost w now → HoldsAt line w tree ps order
  pub short : HasShortTicks tree
  pub lower : IsAtMost now was
  pub fair : IsFair floor line.loads line.slots was → IsFair floor line.loads line.slots now
  pub count : node_count tree + left ≡ had
  pub cause : HasCause (open_count tree) left halted

-- trees for some of the children of a prefix
abbrev pub RowHolds : Line → Option ℕ → Shapes → Prefix → ℕ → List ℕ → List Place → Type 0
RowHolds line v trees ps u order kids = TreesWith (λ _ _. Unit {0}) line v trees ps u order kids

-- after some of a split's children
pub record IsWalking (line : Line) (floor : ℕ) (ps : Prefix) (u : ℕ) (order : List ℕ) (kids : List Place) (was : Option ℕ) (had : ℕ) (now : Option ℕ) (left : ℕ) (halted : Bool) (ts : List Tree) : Type 0 where
  pub holds : (w : Option ℕ) → IsAtMost w now → RowHolds line w (shapes_of ts) ps u order kids
  pub short : HaveShortTicks (shapes_of ts)
  pub lower : IsAtMost now was
  pub fair : IsFair floor line.loads line.slots was → IsFair floor line.loads line.slots now
  pub count : node_counts (shapes_of ts) + left ≡ had
  pub cause : HasCause (open_counts (shapes_of ts)) left halted

-- a walk from the value `was`, where the guide knew `knew`, to the value `now`, where it knows `knows`: what is known only falls; the value falls no lower than
-- what the guide knows, and is no higher once it was asked
pub record FollowsGuide (had : ℕ) (halted : Bool) (was knew now knows : Option ℕ) : Type 0 where
  pub falls : IsAtMost knows knew
  pub least : IsAtMost knew was → IsAtMost knows now
  pub most : ((0 < had) × (halted ≡ false)) ⊎ IsAtMost was knew → IsAtMost now knows
