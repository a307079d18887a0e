-- Search trees whose open leaves have numbers.
use Rattle.std.specs.Prelude.{ℕ, ◌+◌, ◌==◌, if◌then◌else◌, List, [], ◌∷◌, Option, Some, set}
use Rattle.ec_units.specs.declared.slave.Place.{Place}
use Rattle.ec_loads.specs.Line.{Line}
use Rattle.ec_loads.specs.Shape.{Shape, Shapes, split, leaf, open_leaf, no_shapes, more}
use Rattle.ec_loads.specs.Search.{Prefix, children, IsTree, HasShortTicks, node_count, open_count}

mutual
  pub data Numbered : Type 0 where
    branch : Numbereds → Numbered
    closed : Shape → Numbered
    gap : ℕ → Numbered

  pub data Numbereds : Type 0 where
    last : Numbereds
    next : Numbered → Numbereds → Numbereds

-- the open leaves numbered from k on, in preorder
abbrev mutual
  pub numbered : ℕ → Shape → Numbered
  numbered k (split ts) = branch (all_numbered k ts)
  numbered k (leaf l) = closed (leaf l)
  numbered k open_leaf = gap k

  pub all_numbered : ℕ → Shapes → Numbereds
  all_numbered k no_shapes = last
  all_numbered k (more t ts) = next (numbered k t) (all_numbered (k + open_count t) ts)

-- another tree in place of each open leaf, by its number
abbrev mutual
  pub fill : (ℕ → Numbered) → Numbered → Numbered
  fill f (branch ts) = branch (fills f ts)
  fill f (closed s) = closed s
  fill f (gap n) = f n

  pub fills : (ℕ → Numbered) → Numbereds → Numbereds
  fills f last = last
  fills f (next t ts) = next (fill f t) (fills f ts)

-- the tree in place of each open leaf of one number
abbrev pub plug : ℕ → Numbered → Numbered → Numbered
plug p s t = fill (λ m. if m == p then s else gap m) t

-- the tree without numbers, with a shape in place of each open leaf
abbrev mutual
  pub draw : (ℕ → Shape) → Numbered → Shape
  draw f (branch ts) = split (draws f ts)
  draw f (closed s) = s
  draw f (gap n) = f n

  pub draws : (ℕ → Shape) → Numbereds → Shapes
  draws f last = no_shapes
  draws f (next t ts) = more (draw f t) (draws f ts)

-- the tree without numbers
abbrev pub plain : Numbered → Shape
plain t = draw (λ _. open_leaf) t

-- splits and closed leaves
abbrev mutual
  pub size : Numbered → ℕ
  size (branch ts) = 1 + sizes ts
  size (closed s) = node_count s
  size (gap n) = 0

  pub sizes : Numbereds → ℕ
  sizes last = 0
  sizes (next t ts) = size t + sizes ts

-- how many open leaves
abbrev mutual
  pub gaps : Numbered → ℕ
  gaps (branch ts) = all_gaps ts
  gaps (closed s) = 0
  gaps (gap n) = 1

  pub all_gaps : Numbereds → ℕ
  all_gaps last = 0
  all_gaps (next t ts) = gaps t + all_gaps ts

-- how often a number stands at an open leaf
abbrev mutual
  pub times : ℕ → Numbered → ℕ
  times m (branch ts) = all_times m ts
  times m (closed s) = 0
  times m (gap n) = if m == n then 1 else 0

  pub all_times : ℕ → Numbereds → ℕ
  all_times m last = 0
  all_times m (next t ts) = times m t + all_times m ts

-- a tree for a prefix at a value, by the units that are left; of an open leaf the first argument says, by its number, what it has to be
abbrev mutual
  pub NumberedTree : (ℕ → Prefix → List ℕ → Type 0) → Line → Option ℕ → Numbered → Prefix → List ℕ → Type 0
  NumberedTree is line v (branch ts) ps [] = ⊥
  NumberedTree is line v (branch ts) ps (u ∷ order) = NumberedTrees is line v ts ps u order (children line ps u)
  NumberedTree is line v (closed s) ps order = IsTree line v s ps order × HasShortTicks s
  NumberedTree is line v (gap m) ps order = is m ps order

  pub NumberedTrees : (ℕ → Prefix → List ℕ → Type 0) → Line → Option ℕ → Numbereds → Prefix → ℕ → List ℕ → List Place → Type 0
  NumberedTrees is line v last ps u order [] = Unit {0}
  NumberedTrees is line v last ps u order (p ∷ rest) = ⊥
  NumberedTrees is line v (next t ts) ps u order [] = ⊥
  NumberedTrees is line v (next t ts) ps u order (p ∷ rest) =
      NumberedTree is line v t (set ps u (Some p)) order × NumberedTrees is line v ts ps u order rest
