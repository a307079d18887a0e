-- How the logic stores the shape of a tree.
use Rattle.std.specs.Prelude.{◌≡◌, ℕ, ◌==◌, cond, List, [], ◌∷◌, refl}
use Rattle.std.specs.Coded.{Coded}
use base.Stored.{Gv, gnil, gnum, gcons}
use mathlib.Core.Path.{ap, sym, ◌∙◌}
use Rattle.ec_loads.specs.declared.pair.Pair.{Pair}
use Rattle.ec_loads.specs.Shape.{Leaf, tick, full, average, weighted, merging, counted, grouped, Shape, split, leaf, open_leaf, Shapes, no_shapes, more}

abbrev number : Gv → ℕ
number gnil = 0
number (gnum n) = n
number (gcons a b) = 0

abbrev first : Gv → Gv
first gnil = gnil
first (gnum n) = gnil
first (gcons a b) = a

abbrev second : Gv → Gv
second gnil = gnil
second (gnum n) = gnil
second (gcons a b) = b

abbrev weights_code : List ℕ → Gv
weights_code [] = gnil
weights_code (w ∷ ws) = gcons (gnum w) (weights_code ws)

abbrev weights_at : Gv → List ℕ
weights_at gnil = []
weights_at (gnum n) = []
weights_at (gcons a b) = number a ∷ weights_at b

weights_back : (ws : List ℕ) → weights_at (weights_code ws) ≡ ws
weights_back [] = refl
weights_back (w ∷ ws) = ap (λ x. w ∷ x) (weights_back ws)

abbrev pairs_code : List Pair → Gv
pairs_code [] = gnil
pairs_code (p ∷ ps) = gcons (gcons (gnum p.count) (gnum p.room)) (pairs_code ps)

abbrev pairs_at : Gv → List Pair
pairs_at gnil = []
pairs_at (gnum n) = []
pairs_at (gcons a b) = record { count = number (first a); room = number (second a) } ∷ pairs_at b

pairs_back : (ps : List Pair) → pairs_at (pairs_code ps) ≡ ps
pairs_back [] = refl
pairs_back (p ∷ ps) = ap (λ x. p ∷ x) (pairs_back ps)

abbrev leaf_code : Leaf → Gv
leaf_code (tick t) = gcons (gnum 0) (gnum t)
leaf_code (full t s) = gcons (gnum 1) (gcons (gnum t) (gnum s))
leaf_code average = gcons (gnum 2) gnil
leaf_code (weighted w) = gcons (gnum 3) (weights_code w)
leaf_code merging = gcons (gnum 4) gnil
leaf_code (counted p c) = gcons (gnum 5) (gcons (gnum p) (gnum c))
leaf_code (grouped pairs) = gcons (gnum 6) (pairs_code pairs)

-- the leaf of a kind from 3 on
abbrev later_leaf : ℕ → Gv → Leaf
later_leaf k g =
    cond (k == 3) (weighted (weights_at g)) (cond (k == 4) merging (cond (k == 5) (counted (number (first g)) (number (second g))) (grouped (pairs_at g))))

abbrev leaf_at : Gv → Leaf
leaf_at g =
    cond (number (first g) == 0) (tick (number (second g))) (cond (number (first g) == 1) (full (number (first (second g))) (number (second (second g)))) (cond (number (first g) == 2) average (later_leaf (number (first g)) (second g))))

leaf_back : (l : Leaf) → leaf_at (leaf_code l) ≡ l
leaf_back (tick t) = refl
leaf_back (full t s) = refl
leaf_back average = refl
leaf_back (weighted w) = ap weighted (weights_back w)
leaf_back merging = refl
leaf_back (counted p c) = refl
leaf_back (grouped pairs) = ap grouped (pairs_back pairs)

abbrev mutual
  to_code : Shape → Gv
  to_code (split ts) = gcons (gnum 0) (all_to_code ts)
  to_code (leaf l) = gcons (gnum 1) (leaf_code l)
  to_code open_leaf = gnil

  all_to_code : Shapes → Gv
  all_to_code no_shapes = gnil
  all_to_code (more t ts) = gcons (to_code t) (all_to_code ts)

abbrev mutual
  from_code : Gv → Shape
  from_code gnil = open_leaf
  from_code (gnum n) = open_leaf
  from_code (gcons a b) = cond (number a == 0) (split (all_from_code b)) (leaf (leaf_at b))

  all_from_code : Gv → Shapes
  all_from_code gnil = no_shapes
  all_from_code (gnum n) = no_shapes
  all_from_code (gcons a b) = more (from_code a) (all_from_code b)

mutual
  code_back : (s : Shape) → from_code (to_code s) ≡ s
  code_back (split ts) = ap split (all_code_back ts)
  code_back (leaf l) = ap leaf (leaf_back l)
  code_back open_leaf = refl

  all_code_back : (ts : Shapes) → all_from_code (all_to_code ts) ≡ ts
  all_code_back no_shapes = refl
  all_code_back (more t ts) = λ j. more (code_back t j) (all_code_back ts j)

pub to_code-one : (s t : Shape) → to_code s ≡ to_code t → s ≡ t
to_code-one s t e = sym (code_back s) ∙ ap from_code e ∙ code_back t

abbrev pub shape_code : Coded Shape
shape_code = record { code = to_code; inj = to_code-one }
