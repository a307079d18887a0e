-- The merge of two trees, made node by node: `both-merged` says that it is one, `merged-is` that there is no other.
use Rattle.std.proofs.Common.{◌≡◌, ◌⊎◌, ℕ, zero, suc, List, [], ◌∷◌, ◌++◌, Option, Some, None, refl, sym, ap, ◌∙◌, subst, inl, inr, arith}
use Rattle.ec_loads.specs.Shape.{Leaf, Shape, Shapes, split, leaf, open_leaf, no_shapes, more, shape_count}
use Rattle.ec_loads.specs.Search.{open_count, open_counts}
use Rattle.ec_cert_merge.specs.Merged.{tree_at, child_at, IsSplit, IsLeftOpen, MaySplit, IsOfBoth, IsMerged, AreAsWide, AreAlike, IsOpenAbove}

abbrev mutual
  pub both : Shape → Shape → Shape
  both (leaf l) b = leaf l
  both open_leaf b = b
  both (split ts) (leaf l) = leaf l
  both (split ts) open_leaf = split ts
  both (split ts) (split us) = split (all_both ts us)

  pub all_both : Shapes → Shapes → Shapes
  all_both no_shapes us = no_shapes
  all_both (more t ts) no_shapes = more t ts
  all_both (more t ts) (more u us) = more (both t u) (all_both ts us)

pub count-both : (ts us : Shapes) → shape_count (all_both ts us) ≡ shape_count ts
count-both no_shapes us = refl
count-both (more t ts) no_shapes = refl
count-both (more t ts) (more u us) = ap suc (count-both ts us)

-- ---- it is a merge

-- beside nothing
of-second : (z : Option Shape) → IsOfBoth None z z
of-second None = tt
of-second (Some (split ts)) = (tt, refl, inr tt)
of-second (Some (leaf l)) = inr (tt, refl)
of-second (Some open_leaf) = (tt, tt)

of-first : (z : Option Shape) → IsOfBoth z None z
of-first None = tt
of-first (Some (split ts)) = (refl, tt, inl tt)
of-first (Some (leaf l)) = inl refl
of-first (Some open_leaf) = (tt, tt)

beside-open : (b : Shape) → IsMerged open_leaf b b
beside-open (split ts) [] = (tt, refl, inr tt)
beside-open (leaf l) [] = inr (tt, refl)
beside-open open_leaf [] = (tt, tt)
beside-open b (i ∷ path) = of-second (tree_at (i ∷ path) b)

-- children are as wide
abbrev pub AreAllAlike : Shapes → Shapes → Type 0
AreAllAlike ts us = (i : ℕ) (path : List ℕ) → AreAsWide (child_at i path ts) (child_at i path us)

abbrev pub AreMerged : Shapes → Shapes → Shapes → Type 0
AreMerged ts us ms = (i : ℕ) (path : List ℕ) → IsOfBoth (child_at i path ts) (child_at i path us) (child_at i path ms)

mutual
  pub both-merged : (a b : Shape) → AreAlike a b → IsMerged a b (both a b)
  both-merged (leaf l) b alike [] = inl refl
  both-merged (leaf l) b alike (i ∷ path) = tt
  both-merged open_leaf b alike path = beside-open b path
  both-merged (split ts) (leaf l) alike [] = inr (tt, refl)
  both-merged (split ts) (leaf l) alike (i ∷ path) = tt
  both-merged (split ts) open_leaf alike [] = (refl, tt, inl tt)
  both-merged (split ts) open_leaf alike (i ∷ path) = of-first (child_at i path ts)
  both-merged (split ts) (split us) alike [] = (sym (count-both ts us), sym (alike []) ∙ sym (count-both ts us), inl tt)
  both-merged (split ts) (split us) alike (i ∷ path) = all-merged ts us (alike []) (λ j q. alike (j ∷ q)) i path

  all-merged : (ts us : Shapes) → shape_count ts ≡ shape_count us → AreAllAlike ts us → AreMerged ts us (all_both ts us)
  all-merged no_shapes us same alike i path = tt
  all-merged (more t ts) no_shapes same alike i path = absurd (omega (arith, same))
  all-merged (more t ts) (more u us) same alike zero path = both-merged t u (alike zero) path
  all-merged (more t ts) (more u us) same alike (suc i) path = all-merged ts us (omega (arith, same)) (λ j q. alike (suc j) q) i path

-- ---- there is no other

leaf-same : (k l : Leaf) → Some (leaf l) ≡ Some (leaf k) → leaf k ≡ leaf l
leaf-same k l e = cc

split_leaf : (ts : Shapes) (l : Leaf) → Some (split ts) ≡ Some (leaf l) → ⊥
split_leaf ts l e = absurd cc

open_leaf_leaf : (l : Leaf) → Some open_leaf ≡ Some (leaf l) → ⊥
open_leaf_leaf l e = absurd cc

open-is : (x : Option Shape) (l : Leaf) → IsLeftOpen x → x ≡ Some (leaf l) → ⊥
open-is x l free e = subst IsLeftOpen e free

open-split : (x : Option Shape) → IsLeftOpen x → IsSplit x → ⊥
open-split None free is = is
open-split (Some (split ts)) free is = free
open-split (Some (leaf l)) free is = is
open-split (Some open_leaf) free is = is

-- a tree beside open leaves
mutual
  same-second : (f : List ℕ → Option Shape) → ((path : List ℕ) → IsLeftOpen (f path)) → (b m : Shape) → ((path : List ℕ) → IsOfBoth (f path) (tree_at path b) (tree_at path m)) → m ≡ b
  same-second f free (split us) (split ms) h = ap split (same-seconds (λ i path. f (i ∷ path)) (λ i path. free (i ∷ path)) us ms (h []).1 (λ i path. h (i ∷ path)))
  same-second f free (split us) (leaf k) h = elim (h []) [ inl e ↦ absurd (open-is (f []) k (free []) e) | inr q ↦ absurd (split_leaf us k q.1) ]
  same-second f free (split us) open_leaf h = absurd (h []).1
  same-second f free (leaf l) (split ms) h = absurd (h []).1
  same-second f free (leaf l) (leaf k) h = elim (h []) [ inl e ↦ absurd (open-is (f []) k (free []) e) | inr q ↦ leaf-same k l q.1 ]
  same-second f free (leaf l) open_leaf h = absurd (h []).1
  same-second f free open_leaf (split ms) h = elim (h []).2 [ inl is ↦ absurd (open-split (f []) (free []) is) | inr is ↦ absurd is ]
  same-second f free open_leaf (leaf k) h = elim (h []) [ inl e ↦ absurd (open-is (f []) k (free []) e) | inr q ↦ absurd (open_leaf_leaf k q.1) ]
  same-second f free open_leaf open_leaf h = refl

  same-seconds : (f : ℕ → List ℕ → Option Shape) → ((i : ℕ) (path : List ℕ) → IsLeftOpen (f i path)) → (us ms : Shapes) → shape_count us ≡ shape_count ms → ((i : ℕ) (path : List ℕ) → IsOfBoth (f i path) (child_at i path us) (child_at i path ms)) → ms ≡ us
  same-seconds f free no_shapes no_shapes same h = refl
  same-seconds f free no_shapes (more m ms) same h = absurd (omega (arith, same))
  same-seconds f free (more u us) no_shapes same h = absurd (omega (arith, same))
  same-seconds f free (more u us) (more m ms) same h =
      λ j. more (same-second (f zero) (free zero) u m (λ path. h zero path) j) (same-seconds (λ i. f (suc i)) (λ i. free (suc i)) us ms (omega (arith, same)) (λ i path. h (suc i) path) j)

mutual
  same-first : (f : List ℕ → Option Shape) → ((path : List ℕ) → IsLeftOpen (f path)) → (a m : Shape) → ((path : List ℕ) → IsOfBoth (tree_at path a) (f path) (tree_at path m)) → m ≡ a
  same-first f free (split ts) (split ms) h = ap split (same-firsts (λ i path. f (i ∷ path)) (λ i path. free (i ∷ path)) ts ms (h []).0 (λ i path. h (i ∷ path)))
  same-first f free (split ts) (leaf k) h = elim (h []) [ inl e ↦ absurd (split_leaf ts k e) | inr q ↦ absurd (open-is (f []) k (free []) q.1) ]
  same-first f free (split ts) open_leaf h = absurd (h []).0
  same-first f free (leaf l) (split ms) h = absurd (h []).0
  same-first f free (leaf l) (leaf k) h = elim (h []) [ inl e ↦ leaf-same k l e | inr q ↦ absurd q.0 ]
  same-first f free (leaf l) open_leaf h = absurd (h []).0
  same-first f free open_leaf (split ms) h = elim (h []).2 [ inl is ↦ absurd is | inr is ↦ absurd (open-split (f []) (free []) is) ]
  same-first f free open_leaf (leaf k) h = elim (h []) [ inl e ↦ absurd (open_leaf_leaf k e) | inr q ↦ absurd (open-is (f []) k (free []) q.1) ]
  same-first f free open_leaf open_leaf h = refl

  same-firsts : (f : ℕ → List ℕ → Option Shape) → ((i : ℕ) (path : List ℕ) → IsLeftOpen (f i path)) → (ts ms : Shapes) → shape_count ts ≡ shape_count ms → ((i : ℕ) (path : List ℕ) → IsOfBoth (child_at i path ts) (f i path) (child_at i path ms)) → ms ≡ ts
  same-firsts f free no_shapes no_shapes same h = refl
  same-firsts f free no_shapes (more m ms) same h = absurd (omega (arith, same))
  same-firsts f free (more t ts) no_shapes same h = absurd (omega (arith, same))
  same-firsts f free (more t ts) (more m ms) same h =
      λ j. more (same-first (f zero) (free zero) t m (λ path. h zero path) j) (same-firsts (λ i. f (suc i)) (λ i. free (suc i)) ts ms (omega (arith, same)) (λ i path. h (suc i) path) j)

open-free : (path : List ℕ) → IsLeftOpen (tree_at path open_leaf)
open-free [] = tt
open-free (i ∷ path) = tt

mutual
  pub merged-is : (a b m : Shape) → IsMerged a b m → m ≡ both a b
  merged-is (leaf l) b (split ms) h = absurd (h []).0
  merged-is (leaf l) b (leaf k) h = elim (h []) [ inl e ↦ leaf-same k l e | inr q ↦ absurd q.0 ]
  merged-is (leaf l) b open_leaf h = absurd (h []).0
  merged-is open_leaf b m h = same-second (λ path. tree_at path open_leaf) open-free b m h
  merged-is (split ts) (leaf l) (split ms) h = absurd (h []).1
  merged-is (split ts) (leaf l) (leaf k) h = elim (h []) [ inl e ↦ absurd (split_leaf ts k e) | inr q ↦ leaf-same k l q.1 ]
  merged-is (split ts) (leaf l) open_leaf h = absurd (h []).1
  merged-is (split ts) open_leaf m h = same-first (λ path. tree_at path open_leaf) open-free (split ts) m h
  merged-is (split ts) (split us) (split ms) h = ap split (all-is ts us ms (h []).0 (h []).1 (λ i path. h (i ∷ path)))
  merged-is (split ts) (split us) (leaf k) h = elim (h []) [ inl e ↦ absurd (split_leaf ts k e) | inr q ↦ absurd (split_leaf us k q.1) ]
  merged-is (split ts) (split us) open_leaf h = absurd (h []).0

  all-is : (ts us ms : Shapes) → shape_count ts ≡ shape_count ms → shape_count us ≡ shape_count ms → AreMerged ts us ms → ms ≡ all_both ts us
  all-is no_shapes us no_shapes same too h = refl
  all-is no_shapes us (more m ms) same too h = absurd (omega (arith, same))
  all-is (more t ts) us no_shapes same too h = absurd (omega (arith, same))
  all-is (more t ts) no_shapes (more m ms) same too h = absurd (omega (arith, too))
  all-is (more t ts) (more u us) (more m ms) same too h =
      λ j. more (merged-is t u m (λ path. h zero path) j) (all-is ts us ms (omega (arith, same)) (omega (arith, too)) (λ i path. h (suc i) path) j)

-- ---- what is left open

abbrev IsLeft : Shape → Type 0
IsLeft m = Some m ≡ Some open_leaf

not_open : (ms : Shapes) → Some (split ms) ≡ Some open_leaf → ⊥
not_open ms e = absurd cc

leaf_not_open : (l : Leaf) → Some (leaf l) ≡ Some open_leaf → ⊥
leaf_not_open l e = absurd cc

nothing_open : None ≡ Some open_leaf → ⊥
nothing_open e = absurd cc

-- what the node of a tree may be, by that of the merge
abbrev Allows : Option Shape → Option Shape → Type 0
Allows x None = Unit {0}
Allows x (Some (split ts)) = MaySplit (shape_count ts) x
Allows x (Some (leaf l)) = Unit {0}
Allows x (Some open_leaf) = IsLeftOpen x

allows-first : (x y z : Option Shape) → IsOfBoth x y z → Allows x z
allows-first x y None h = tt
allows-first x y (Some (split ts)) h = h.0
allows-first x y (Some (leaf l)) h = tt
allows-first x y (Some open_leaf) h = h.0

allows-second : (x y z : Option Shape) → IsOfBoth x y z → Allows y z
allows-second x y None h = tt
allows-second x y (Some (split ts)) h = h.1
allows-second x y (Some (leaf l)) h = tt
allows-second x y (Some open_leaf) h = h.1

mutual
  open-above : (a m : Shape) → ((path : List ℕ) → Allows (tree_at path a) (tree_at path m)) → (path : List ℕ) → tree_at path m ≡ Some open_leaf → IsOpenAbove a path
  open-above open_leaf m h path e = ([], path, refl, refl)
  open-above (leaf l) (split ms) h path e = absurd (h [])
  open-above (leaf l) (leaf k) h [] e = absurd (leaf_not_open k e)
  open-above (leaf l) (leaf k) h (i ∷ path) e = absurd (nothing_open e)
  open-above (leaf l) open_leaf h path e = absurd (h [])
  open-above (split ts) (split ms) h [] e = absurd (not_open ms e)
  open-above (split ts) (split ms) h (i ∷ path) e =
      let found = child-open ts ms (h []) (λ j q. h (j ∷ q)) i path e in
      (i ∷ found.0, found.1, ap (λ w. i ∷ w) found.2, found.3)
  open-above (split ts) (leaf k) h [] e = absurd (leaf_not_open k e)
  open-above (split ts) (leaf k) h (i ∷ path) e = absurd (nothing_open e)
  open-above (split ts) open_leaf h path e = absurd (h [])

  child-open : (ts ms : Shapes) → shape_count ts ≡ shape_count ms → ((i : ℕ) (path : List ℕ) → Allows (child_at i path ts) (child_at i path ms)) → (i : ℕ) (path : List ℕ) → child_at i path ms ≡ Some open_leaf
      → (above : List ℕ) × (below : List ℕ) × (path ≡ above ++ below) × (child_at i above ts ≡ Some open_leaf)
  child-open no_shapes no_shapes same h i path e = absurd (nothing_open e)
  child-open no_shapes (more m ms) same h i path e = absurd (omega (arith, same))
  child-open (more t ts) no_shapes same h i path e = absurd (omega (arith, same))
  child-open (more t ts) (more m ms) same h zero path e = open-above t m (λ q. h zero q) path e
  child-open (more t ts) (more m ms) same h (suc i) path e = child-open ts ms (omega (arith, same)) (λ j q. h (suc j) q) i path e

pub open-in-both : (a b m : Shape) (path : List ℕ) → IsMerged a b m → tree_at path m ≡ Some open_leaf → IsOpenAbove a path × IsOpenAbove b path
open-in-both a b m path h e = (
  open-above a m (λ q. allows-first (tree_at q a) (tree_at q b) (tree_at q m) (h q)) path e,
  open-above b m (λ q. allows-second (tree_at q a) (tree_at q b) (tree_at q m) (h q)) path e,
)

-- where no leaf of one of the two is open, none of the merge is
mutual
  pub first-closed : (a b : Shape) → open_count a ≡ 0 → open_count (both a b) ≡ 0
  first-closed (leaf l) b none = refl
  first-closed open_leaf b none = absurd (omega (arith, none))
  first-closed (split ts) (leaf l) none = refl
  first-closed (split ts) open_leaf none = none
  first-closed (split ts) (split us) none = firsts-closed ts us none

  firsts-closed : (ts us : Shapes) → open_counts ts ≡ 0 → open_counts (all_both ts us) ≡ 0
  firsts-closed no_shapes us none = refl
  firsts-closed (more t ts) no_shapes none = none
  firsts-closed (more t ts) (more u us) none =
      let one = first-closed t u (omega (arith, none)) in
      let rest = firsts-closed ts us (omega (arith, none)) in
      omega (arith, one, rest)

mutual
  pub second-closed : (a b m : Shape) → IsMerged a b m → open_count b ≡ 0 → open_count m ≡ 0
  second-closed a b (leaf k) h none = refl
  second-closed (leaf l) b (split ms) h none = absurd (h []).0
  second-closed (leaf l) b open_leaf h none = absurd (h []).0
  second-closed open_leaf b m h none = ap open_count (merged-is open_leaf b m h) ∙ none
  second-closed (split ts) (leaf l) (split ms) h none = absurd (h []).1
  second-closed (split ts) (leaf l) open_leaf h none = absurd (h []).1
  second-closed (split ts) open_leaf m h none = absurd (omega (arith, none))
  second-closed (split ts) (split us) (split ms) h none = seconds-closed ts us ms (h []).0 (h []).1 (λ i path. h (i ∷ path)) none
  second-closed (split ts) (split us) open_leaf h none = absurd (h []).0

  seconds-closed : (ts us ms : Shapes) → shape_count ts ≡ shape_count ms → shape_count us ≡ shape_count ms → AreMerged ts us ms → open_counts us ≡ 0 → open_counts ms ≡ 0
  seconds-closed ts us no_shapes same too h none = refl
  seconds-closed no_shapes us (more m ms) same too h none = absurd (omega (arith, same))
  seconds-closed (more t ts) no_shapes (more m ms) same too h none = absurd (omega (arith, too))
  seconds-closed (more t ts) (more u us) (more m ms) same too h none =
      let one = second-closed t u m (λ path. h zero path) (omega (arith, none)) in
      let rest = seconds-closed ts us ms (omega (arith, same)) (omega (arith, too)) (λ i path. h (suc i) path) (omega (arith, none)) in
      omega (arith, one, rest)

pub one-closed : (a b m : Shape) → IsMerged a b m → (open_count a ≡ 0) ⊎ (open_count b ≡ 0) → open_count m ≡ 0
one-closed a b m h (inl none) = ap open_count (merged-is a b m h) ∙ first-closed a b none
one-closed a b m h (inr none) = second-closed a b m h none
