-- Laws of merged trees.
use Rattle.std.specs.Prelude.{◌≡◌, ◌⊎◌, ℕ, ◌<◌, List, [], ◌∷◌, map, Option, Some}
use Rattle.ec_loads.specs.Line.{Line}
use Rattle.ec_loads.specs.Shape.{Shape, open_leaf}
use Rattle.ec_loads.specs.Search.{Prefix, IsPartialTree, IsAtMost, open_count}
use Rattle.ec_book.specs.Numbered.{numbered, draw}
use Rattle.ec_cert_merge.specs.Merged.{tree_at, IsMerged, IsOpenAbove}

-- two trees have one merge
abbrev pub MergesAreOne : Type 0
MergesAreOne = (a b m o : Shape) → IsMerged a b m → IsMerged a b o → m ≡ o

-- the merge of two partial trees for a prefix, each at a value of its own, is one at each value that isn't above these two
abbrev pub MergedTreesHold : Type 0
MergedTreesHold =
    (line : Line) (v w least : Option ℕ) (a b m : Shape) (ps : Prefix) (order : List ℕ) → IsMerged a b m → IsAtMost least v → IsAtMost least w → IsPartialTree line v a ps order → IsPartialTree line w b ps order → IsPartialTree line least m ps order

-- what the merge leaves open, both left open
abbrev pub OpenInAll : Type 0
OpenInAll = (a b m : Shape) (path : List ℕ) → IsMerged a b m → tree_at path m ≡ Some open_leaf → IsOpenAbove a path × IsOpenAbove b path

-- where two trees have some tree in place of each open leaf of a given one, their merge has the merge of both there
abbrev pub PartsMerge : Type 0
PartsMerge =
    (given : Shape) (f g : ℕ → Shape) (m : Shape) → IsMerged (draw f (numbered 0 given)) (draw g (numbered 0 given)) m
    → (h : ℕ → Shape) × (m ≡ draw h (numbered 0 given)) × ((k : ℕ) → k < open_count given → IsMerged (f k) (g k) (h k))

-- a tree is what comes of the first one where the others are merged into it, one by one
abbrev pub IsMergedInTurn : Shape → List Shape → Shape → Type 0
IsMergedInTurn a [] m = a ≡ m
IsMergedInTurn a (b ∷ bs) m = (c : Shape) × IsMerged a b c × IsMergedInTurn c bs m

-- in place of the k-th open leaf one of them has a tree without an open leaf
abbrev pub IsClosedInOne : List (ℕ → Shape) → ℕ → Type 0
IsClosedInOne [] k = ⊥
IsClosedInOne (f ∷ fs) k = (open_count (f k) ≡ 0) ⊎ IsClosedInOne fs k

-- where some trees grow from a given one, and each of its open leaves is closed in one of them, no leaf is open when all are merged
abbrev pub PartsClose : Type 0
PartsClose =
    (given : Shape) (f : ℕ → Shape) (fs : List (ℕ → Shape)) (m : Shape) → IsMergedInTurn (draw f (numbered 0 given)) (map (λ g. draw g (numbered 0 given)) fs) m
    → ((k : ℕ) → k < open_count given → IsClosedInOne (f ∷ fs) k) → open_count m ≡ 0
