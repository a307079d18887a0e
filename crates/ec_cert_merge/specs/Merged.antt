-- What stands at each node of the merge of two trees.
use Rattle.std.specs.Prelude.{◌≡◌, ◌⊎◌, ℕ, zero, suc, List, [], ◌∷◌, ◌++◌, Option, Some, None}
use Rattle.ec_loads.specs.Shape.{Shape, Shapes, split, leaf, open_leaf, no_shapes, more, shape_count}

-- the tree at a node, to which the numbers of the children lead from the root on; none where there is no such node
abbrev mutual
  pub tree_at : List ℕ → Shape → Option Shape
  tree_at [] t = Some t
  tree_at (i ∷ path) (split ts) = child_at i path ts
  tree_at (i ∷ path) (leaf l) = None
  tree_at (i ∷ path) open_leaf = None

  pub child_at : ℕ → List ℕ → Shapes → Option Shape
  child_at i path no_shapes = None
  child_at zero path (more t ts) = tree_at path t
  child_at (suc i) path (more t ts) = child_at i path ts

-- it is no closed leaf
abbrev pub IsNotClosed : Option Shape → Type 0
IsNotClosed None = Unit {0}
IsNotClosed (Some (split ts)) = Unit {0}
IsNotClosed (Some (leaf l)) = ⊥
IsNotClosed (Some open_leaf) = Unit {0}

abbrev pub IsSplit : Option Shape → Type 0
IsSplit None = ⊥
IsSplit (Some (split ts)) = Unit {0}
IsSplit (Some (leaf l)) = ⊥
IsSplit (Some open_leaf) = ⊥

-- it is an open leaf, or there is nothing
abbrev pub IsLeftOpen : Option Shape → Type 0
IsLeftOpen None = Unit {0}
IsLeftOpen (Some (split ts)) = ⊥
IsLeftOpen (Some (leaf l)) = ⊥
IsLeftOpen (Some open_leaf) = Unit {0}

-- it is no closed leaf, and if it is a split it has so many children
abbrev pub MaySplit : ℕ → Option Shape → Type 0
MaySplit n None = Unit {0}
MaySplit n (Some (split ts)) = shape_count ts ≡ n
MaySplit n (Some (leaf l)) = ⊥
MaySplit n (Some open_leaf) = Unit {0}

-- what stands at a node of the merge, by what stands there in the first and in the second tree: a split where one of them has one, as wide, and none is closed;
-- the closed leaf of the first, or where the first isn't closed, that of the second; an open leaf where neither has anything more
abbrev pub IsOfBoth : Option Shape → Option Shape → Option Shape → Type 0
IsOfBoth x y None = Unit {0}
IsOfBoth x y (Some (split ts)) = MaySplit (shape_count ts) x × MaySplit (shape_count ts) y × (IsSplit x ⊎ IsSplit y)
IsOfBoth x y (Some (leaf l)) = (x ≡ Some (leaf l)) ⊎ (IsNotClosed x × (y ≡ Some (leaf l)))
IsOfBoth x y (Some open_leaf) = IsLeftOpen x × IsLeftOpen y

-- a tree is the merge of two: this is so at each node
abbrev pub IsMerged : Shape → Shape → Shape → Type 0
IsMerged a b m = (path : List ℕ) → IsOfBoth (tree_at path a) (tree_at path b) (tree_at path m)

-- where both are splits, they are as wide
abbrev pub AreAsWide : Option Shape → Option Shape → Type 0
AreAsWide None y = Unit {0}
AreAsWide (Some (split ts)) None = Unit {0}
AreAsWide (Some (split ts)) (Some (split us)) = shape_count ts ≡ shape_count us
AreAsWide (Some (split ts)) (Some (leaf l)) = Unit {0}
AreAsWide (Some (split ts)) (Some open_leaf) = Unit {0}
AreAsWide (Some (leaf l)) y = Unit {0}
AreAsWide (Some open_leaf) y = Unit {0}

-- this is so at each node: the two can be merged
abbrev pub AreAlike : Shape → Shape → Type 0
AreAlike a b = (path : List ℕ) → AreAsWide (tree_at path a) (tree_at path b)

-- an open leaf stands at the node, or on the way to it
abbrev pub IsOpenAbove : Shape → List ℕ → Type 0
IsOpenAbove t path = (above : List ℕ) × (below : List ℕ) × (path ≡ above ++ below) × (tree_at above t ≡ Some open_leaf)
