-- A merge of trees for one prefix is one, at what open leaves of both have to be.
use Rattle.std.proofs.Common.{◌≡◌, ℕ, zero, suc, ◌<◌, ◌≤◌, true, List, [], ◌∷◌, set, Option, Some, None, refl, sym, ap, subst, arith}
use Rattle.ec_units.specs.declared.slave.Place.{Place}
use Rattle.ec_loads.specs.Line.{Line}
use Rattle.ec_loads.specs.Shape.{Leaf, tick, full, average, weighted, merging, counted, grouped, Shape, Shapes, split, leaf, open_leaf, no_shapes, more, shape_count}
use Rattle.ec_loads.specs.Search.{Prefix, children, TreeWith, TreesWith, IsPartialTree, IsAtMost, HasShortTicks, HaveShortTicks, open_count, open_counts}
use Rattle.ec_bounds.proofs.LeafLemmas.{leaf-falls}
use Rattle.ec_symmetry.specs.Reached.{In, here, there}
use Rattle.ec_cert.specs.declared.kinds.Kinds.{Kinds}
use Rattle.ec_cert.specs.WellFormed.{IsLeafLine, HasLevels, HaveLevels}
use Rattle.ec_book.proofs.TreeLemmas.{tree-lower}
use Rattle.ec_cert_merge.specs.Merged.{child_at, AreAsWide, AreAlike}
use Rattle.ec_cert_merge.specs.Laws.{MergedTreesHold}
use Rattle.ec_cert_merge.proofs.BothLemmas.{both, all_both, count-both, merged-is, AreAllAlike}

abbrev pub Opens : Type 1
Opens = Prefix → List ℕ → Type 0

-- what is asked of open leaves: P in the first tree, Q in the second, R in the merge; Fit is what is known of the prefixes
module _ (P Q R Fit : Opens) (line : Line) (v w least : Option ℕ) (low : IsAtMost least v) (low2 : IsAtMost least w)
    (fit-child : (ps : Prefix) (x : ℕ) (order : List ℕ) (p : Place) → Fit ps (x ∷ order) → In p (children line ps x) → Fit (set ps x (Some p)) order)
    (left : (b : Shape) (ps : Prefix) (order : List ℕ) → Fit ps order → P ps order → TreeWith Q line w b ps order → TreeWith R line least b ps order)
    (right : (a : Shape) (ps : Prefix) (order : List ℕ) → Fit ps order → TreeWith P line v a ps order → Q ps order → TreeWith R line least a ps order) where
  mutual
    pub tree-both : (a b : Shape) (ps : Prefix) (order : List ℕ) → Fit ps order → TreeWith P line v a ps order → TreeWith Q line w b ps order → TreeWith R line least (both a b) ps order
    tree-both (leaf l) b ps order fit h k = leaf-falls line v least ps l low h
    tree-both open_leaf b ps order fit h k = left b ps order fit h k
    tree-both (split ts) (leaf l) ps order fit h k = leaf-falls line w least ps l low2 k
    tree-both (split ts) open_leaf ps order fit h k = right (split ts) ps order fit h k
    tree-both (split ts) (split us) ps [] fit h k = absurd h
    tree-both (split ts) (split us) ps (x ∷ order) fit h k = trees-both ts us ps x order (children line ps x) (λ p m. m) fit h k

    trees-both : (ts us : Shapes) (ps : Prefix) (x : ℕ) (order : List ℕ) (places : List Place) → ((p : Place) → In p places → In p (children line ps x)) → Fit ps (x ∷ order) → TreesWith P line v ts ps x order places → TreesWith Q line w us ps x order places → TreesWith R line least (all_both ts us) ps x order places
    trees-both no_shapes us ps x order [] among fit h k = tt
    trees-both no_shapes us ps x order (p ∷ rest) among fit h k = absurd h
    trees-both (more t ts) us ps x order [] among fit h k = absurd h
    trees-both (more t ts) no_shapes ps x order (p ∷ rest) among fit h k = absurd k
    trees-both (more t ts) (more u us) ps x order (p ∷ rest) among fit h k = (
      tree-both t u (set ps x (Some p)) order (fit-child ps x order p fit (among p here)) h.0 k.0,
      trees-both ts us ps x order rest (λ q m. among q (there m)) fit h.1 k.1,
    )

-- trees for one prefix are as wide
wide-none : (x : Option Shape) → AreAsWide x None
wide-none None = tt
wide-none (Some (split ts)) = tt
wide-none (Some (leaf l)) = tt
wide-none (Some open_leaf) = tt

module _ (P Q : Opens) (line : Line) (v w : Option ℕ) where
  count-same : (ts us : Shapes) (ps : Prefix) (x : ℕ) (order : List ℕ) (places : List Place) → TreesWith P line v ts ps x order places → TreesWith Q line w us ps x order places → shape_count ts ≡ shape_count us
  count-same no_shapes no_shapes ps x order places h k = refl
  count-same no_shapes (more u us) ps x order [] h k = absurd k
  count-same no_shapes (more u us) ps x order (p ∷ rest) h k = absurd h
  count-same (more t ts) us ps x order [] h k = absurd h
  count-same (more t ts) no_shapes ps x order (p ∷ rest) h k = absurd k
  count-same (more t ts) (more u us) ps x order (p ∷ rest) h k = ap suc (count-same ts us ps x order rest h.1 k.1)

  mutual
    pub trees-alike : (a b : Shape) (ps : Prefix) (order : List ℕ) → TreeWith P line v a ps order → TreeWith Q line w b ps order → AreAlike a b
    trees-alike (leaf l) b ps order h k [] = tt
    trees-alike (leaf l) b ps order h k (i ∷ path) = tt
    trees-alike open_leaf b ps order h k [] = tt
    trees-alike open_leaf b ps order h k (i ∷ path) = tt
    trees-alike (split ts) (leaf l) ps order h k [] = tt
    trees-alike (split ts) (leaf l) ps order h k (i ∷ path) = wide-none (child_at i path ts)
    trees-alike (split ts) open_leaf ps order h k [] = tt
    trees-alike (split ts) open_leaf ps order h k (i ∷ path) = wide-none (child_at i path ts)
    trees-alike (split ts) (split us) ps [] h k path = absurd h
    trees-alike (split ts) (split us) ps (x ∷ order) h k [] = count-same ts us ps x order (children line ps x) h k
    trees-alike (split ts) (split us) ps (x ∷ order) h k (i ∷ path) = all-alike ts us ps x order (children line ps x) h k i path

    all-alike : (ts us : Shapes) (ps : Prefix) (x : ℕ) (order : List ℕ) (places : List Place) → TreesWith P line v ts ps x order places → TreesWith Q line w us ps x order places → AreAllAlike ts us
    all-alike no_shapes us ps x order places h k i path = tt
    all-alike (more t ts) no_shapes ps x order places h k i path = wide-none (child_at i path (more t ts))
    all-alike (more t ts) (more u us) ps x order [] h k i path = absurd h
    all-alike (more t ts) (more u us) ps x order (p ∷ rest) h k zero path = trees-alike t u (set ps x (Some p)) order h.0 k.0 path
    all-alike (more t ts) (more u us) ps x order (p ∷ rest) h k (suc i) path = all-alike ts us ps x order rest h.1 k.1 i path

-- ticks stay short
mutual
  pub short-both : (a b : Shape) → HasShortTicks a → HasShortTicks b → HasShortTicks (both a b)
  short-both (leaf l) b h k = h
  short-both open_leaf b h k = k
  short-both (split ts) (leaf l) h k = k
  short-both (split ts) open_leaf h k = h
  short-both (split ts) (split us) h k = shorts-both ts us h k

  shorts-both : (ts us : Shapes) → HaveShortTicks ts → HaveShortTicks us → HaveShortTicks (all_both ts us)
  shorts-both no_shapes us h k = tt
  shorts-both (more t ts) no_shapes h k = h
  shorts-both (more t ts) (more u us) h k = (short-both t u h.0 k.0, shorts-both ts us h.1 k.1)

abbrev pub Any : Opens
Any = λ _ _. Unit {0}

pub any-both : (line : Line) (v w least : Option ℕ) (a b : Shape) (ps : Prefix) (order : List ℕ) → IsAtMost least v → IsAtMost least w → TreeWith Any line v a ps order → TreeWith Any line w b ps order → TreeWith Any line least (both a b) ps order
any-both line v w least a b ps order low low2 h k =
    tree-both Any Any Any Any line v w least low low2 (λ _ _ _ _ _ _. tt) (λ t qs o _ _ is. tree-lower Any line w least low2 t qs o is) (λ t qs o _ is _. tree-lower Any line v least low t qs o is) a b ps order tt h k

partial-both : (line : Line) (v w least : Option ℕ) (a b : Shape) (ps : Prefix) (order : List ℕ) → IsAtMost least v → IsAtMost least w → IsPartialTree line v a ps order → IsPartialTree line w b ps order → IsPartialTree line least (both a b) ps order
partial-both line v w least a b ps order low low2 h k = (any-both line v w least a b ps order low low2 h.0 k.0, short-both a b h.1 k.1)

pub merged-hold : MergedTreesHold
merged-hold line v w least a b m ps order is low low2 h k = subst (λ t. IsPartialTree line least t ps order) (sym (merged-is a b m is)) (partial-both line v w least a b ps order low low2 h k)

-- ---- levels of a text

mutual
  pub levels-both : (kinds : Kinds) (d : ℕ) (a b : Shape) → HasLevels kinds d a → HasLevels kinds d b → HasLevels kinds d (both a b)
  levels-both kinds zero a b h k = absurd h
  levels-both kinds (suc d) (leaf l) b h k = h
  levels-both kinds (suc d) open_leaf b h k = k
  levels-both kinds (suc d) (split ts) (leaf l) h k = k
  levels-both kinds (suc d) (split ts) open_leaf h k = h
  levels-both kinds (suc d) (split ts) (split us) h k =
      (subst (λ n. 1 ≤ n) (sym (count-both ts us)) h.0, subst (λ n. n ≤ 480) (sym (count-both ts us)) h.1, all-levels-both kinds d ts us h.2 k.2)

  all-levels-both : (kinds : Kinds) (d : ℕ) (ts us : Shapes) → HaveLevels kinds d ts → HaveLevels kinds d us → HaveLevels kinds d (all_both ts us)
  all-levels-both kinds d no_shapes us h k = tt
  all-levels-both kinds d (more t ts) no_shapes h k = h
  all-levels-both kinds d (more t ts) (more u us) h k = (levels-both kinds d t u h.0 k.0, all-levels-both kinds d ts us h.1 k.1)

-- leaves of other kinds
module _ (k1 k2 : Kinds) (weights : k1.weights ≡ true → k2.weights ≡ true) (rooms : k1.rooms ≡ true → k2.rooms ≡ true) where
  leaf-kinds : (l : Leaf) → IsLeafLine k1 l → IsLeafLine k2 l
  leaf-kinds (tick t) h = h
  leaf-kinds (full t s) h = h
  leaf-kinds average h = tt
  leaf-kinds (weighted w) h = (weights h.0, h.1)
  leaf-kinds merging h = rooms h
  leaf-kinds (counted p c) h = (rooms h.0, h.1)
  leaf-kinds (grouped pairs) h = (rooms h.0, h.1)

  mutual
    pub levels-kinds : (d : ℕ) (t : Shape) → (0 < open_count t → k2.left_open ≡ true) → HasLevels k1 d t → HasLevels k2 d t
    levels-kinds zero t opens h = absurd h
    levels-kinds (suc d) (split ts) opens h = (h.0, h.1, all-levels-kinds d ts opens h.2)
    levels-kinds (suc d) (leaf l) opens h = leaf-kinds l h
    levels-kinds (suc d) open_leaf opens h = opens (omega arith)

    all-levels-kinds : (d : ℕ) (ts : Shapes) → (0 < open_counts ts → k2.left_open ≡ true) → HaveLevels k1 d ts → HaveLevels k2 d ts
    all-levels-kinds d no_shapes opens h = tt
    all-levels-kinds d (more t ts) opens h = (levels-kinds d t (λ some. opens (omega (arith, some))) h.0, all-levels-kinds d ts (λ some. opens (omega (arith, some))) h.1)
