-- A tree in memory, level by level.
-- `SameLevels` is an equivalence that a loop keeps as its invariant.
use Rattle.std.proofs.Common.{◌≡◌, ◌↔◌, IsTrue, Bool, true, false, ℕ, zero, suc, ◌+◌, ◌-◌, ◌<◌, ◌≤◌, List, [], ◌∷◌, ◌++◌, map, length, drop, take, get_or, Box, Vec, Global, refl, ap, sym, subst, ◌∙◌, arith, rules, not-suc-le-zero, le_of_suc-le-suc, add-one}
use Rattle.std.proofs.lemmas.Bool.{true≢false}
use Rattle.std.proofs.lemmas.List.{drop_more, drop_all, map_more, take_all, map-append}
use Rattle.ec_loads.specs.Search.{open_count, open_counts, node_count, node_counts}
use borrow.Author.Tests.{leb-true, le-leb}
use lib.Dec.{leb}
use Rattle.ec_loads.specs.declared.pair.Pair.{Pair}
use Rattle.ec_loads.specs.Shape.{Leaf, tick, full, average, weighted, merging, counted, grouped, Shape, split, leaf, open_leaf, more, shape_count}
use Rattle.ec_cert.specs.Shapes.{shape_of, shapes_of, shapes}
use Rattle.ec_cert.specs.declared.kinds.Kinds.{Kinds}
use Rattle.ec_cert.specs.WellFormed.{HasLevels, HaveLevels, IsLeafLine}
use Rattle.ec_cert.specs.declared.tree.Tree.{Tree, Split, TickLeaf, FullLeaf, Average, Weights, OpenLeaf, Merge, Count, Groups, the_lemmas}

pub shape_of-Split : (b : Box (Vec Tree Global) Global) → shape_of (Split b) ≡ split (shapes_of b.value.items)
shape_of-Split b = search (rules, the_lemmas)

-- a tree that was found to be a split, by the trees behind its box
pub shape_of-trees : (t : Tree) (b : Box (Vec Tree Global) Global) (v : Vec Tree Global) → t ≡ Split b → v ≡ b.value → shape_of t ≡ split (shapes_of v.items)
shape_of-trees t b v is at = ap shape_of is ∙ shape_of-Split b ∙ ap (λ w. split (shapes_of w.items)) (sym at)

pub shape_count-shapes : (ss : List Shape) → shape_count (shapes ss) ≡ length ss
shape_count-shapes [] = refl
shape_count-shapes (s ∷ ss) = ap suc (shape_count-shapes ss)

pub shape_count-shapes_of : (ts : List Tree) → shape_count (shapes_of ts) ≡ length ts
shape_count-shapes_of [] = refl
shape_count-shapes_of (t ∷ ts) = ap suc (shape_count-shapes_of ts)

pub shapes_of-drop : (ts : List Tree) (i : ℕ) (d : Tree) → i < length ts → shapes_of (drop i ts) ≡ more (shape_of (get_or ts i d)) (shapes_of (drop (i + 1) ts))
shapes_of-drop ts i d h = ap shapes_of (drop_more ts i d h)

-- one more tree has its own open leaves more
opens_suc : (ts : List Tree) (i : ℕ) (x : Tree) → i < length ts → x ≡ get_or ts i x → open_counts (shapes_of (take (suc i) ts)) ≡ open_counts (shapes_of (take i ts)) + open_count (shape_of x)
opens_suc [] i x h is = absurd (not-suc-le-zero h)
opens_suc (t ∷ ts) zero x h is = let one = ap (λ w. open_count (shape_of w)) is in omega (arith, one)
opens_suc (t ∷ ts) (suc i) x h is = let rest = opens_suc ts i x (le_of_suc-le-suc h) is in omega (arith, rest)

pub opens_step : (ts : List Tree) (i : ℕ) (x : Tree) → i < length ts → x ≡ get_or ts i x → open_counts (shapes_of (take (i + 1) ts)) ≡ open_counts (shapes_of (take i ts)) + open_count (shape_of x)
opens_step ts i x h is = rw add-one (opens_suc ts i x h is)

-- some trees have no more open leaves than all
pub opens_part : (ts : List Tree) (i : ℕ) → open_counts (shapes_of (take i ts)) ≤ open_counts (shapes_of ts)
opens_part [] zero = omega arith
opens_part [] (suc i) = omega arith
opens_part (t ∷ ts) zero = omega arith
opens_part (t ∷ ts) (suc i) = let rest = opens_part ts i in omega (arith, rest)

-- and its own nodes more
nodes_suc : (ts : List Tree) (i : ℕ) (x : Tree) → i < length ts → x ≡ get_or ts i x → node_counts (shapes_of (take (suc i) ts)) ≡ node_counts (shapes_of (take i ts)) + node_count (shape_of x)
nodes_suc [] i x h is = absurd (not-suc-le-zero h)
nodes_suc (t ∷ ts) zero x h is = let one = ap (λ w. node_count (shape_of w)) is in omega (arith, one)
nodes_suc (t ∷ ts) (suc i) x h is = let rest = nodes_suc ts i x (le_of_suc-le-suc h) is in omega (arith, rest)

pub nodes_step : (ts : List Tree) (i : ℕ) (x : Tree) → i < length ts → x ≡ get_or ts i x → node_counts (shapes_of (take (i + 1) ts)) ≡ node_counts (shapes_of (take i ts)) + node_count (shape_of x)
nodes_step ts i x h is = rw add-one (nodes_suc ts i x h is)

-- what has been looked at has the levels, so the rest decides
abbrev pub SameLevels : Kinds → ℕ → List Tree → ℕ → Type 0
SameLevels kinds d ts i = HaveLevels kinds d (shapes_of (drop i ts)) ↔ HaveLevels kinds d (shapes_of ts)

pub levels_split : (kinds : Kinds) (d : ℕ) (t : Tree) (v : Vec Tree Global) → (0 < d) → shape_of t ≡ split (shapes_of v.items)
    → HasLevels kinds d (shape_of t) ↔ ((1 ≤ length v.items) × (length v.items ≤ 480) × HaveLevels kinds (d - 1) (shapes_of v.items))
levels_split kinds zero t v pos is = absurd (omega arith)
levels_split kinds (suc d) t v pos is =
    let n : shape_count (shapes_of v.items) ≡ length v.items = shape_count-shapes_of v.items in
    let down : suc d - 1 ≡ d = omega arith in (
      λ has. let (low, high, all) = subst (HasLevels kinds (suc d)) is has in (omega arith, omega arith, rw down all),
      λ parts. let below : HaveLevels kinds d (shapes_of v.items) = subst (λ k. HaveLevels kinds k (shapes_of v.items)) down parts.2 in subst (HasLevels kinds (suc d)) (sym is) (omega arith, omega arith, below),
    )

pub shape_of-TickLeaf : (k : ℕ) → shape_of (TickLeaf k) ≡ leaf (tick k)
shape_of-TickLeaf k = search (rules, the_lemmas)

pub shape_of-FullLeaf : (k s : ℕ) → shape_of (FullLeaf k s) ≡ leaf (full k s)
shape_of-FullLeaf k s = search (rules, the_lemmas)

pub shape_of-Weights : (w : List ℕ) → shape_of (Weights w) ≡ leaf (weighted w)
shape_of-Weights w = search (rules, the_lemmas)

pub shape_of-Average : shape_of Average ≡ leaf average
shape_of-Average = search (rules, the_lemmas)

pub shape_of-OpenLeaf : shape_of OpenLeaf ≡ open_leaf
shape_of-OpenLeaf = search (rules, the_lemmas)

pub shape_of-Merge : shape_of Merge ≡ leaf merging
shape_of-Merge = search (rules, the_lemmas)

pub shape_of-Count : (p c : ℕ) → shape_of (Count p c) ≡ leaf (counted p c)
shape_of-Count p c = search (rules, the_lemmas)

pub shape_of-Groups : (pairs : List Pair) → shape_of (Groups pairs) ≡ leaf (grouped pairs)
shape_of-Groups pairs = search (rules, the_lemmas)

-- the levels of a tree that was found to be a leaf
pub levels_leaf : (kinds : Kinds) (d : ℕ) (t : Tree) (l : Leaf) → (d ≡ 0 → ⊥) → shape_of t ≡ leaf l → HasLevels kinds d (shape_of t) ↔ IsLeafLine kinds l
levels_leaf kinds zero t l pos is = absurd (pos refl)
levels_leaf kinds (suc d) t l pos is = (subst (HasLevels kinds (suc d)) is, subst (HasLevels kinds (suc d)) (sym is))

pub levels_open : (kinds : Kinds) (d : ℕ) (t : Tree) → (d ≡ 0 → ⊥) → shape_of t ≡ open_leaf → HasLevels kinds d (shape_of t) ↔ (kinds.left_open ≡ true)
levels_open kinds zero t pos is = absurd (pos refl)
levels_open kinds (suc d) t pos is = (subst (HasLevels kinds (suc d)) is, subst (HasLevels kinds (suc d)) (sym is))

-- a test that decides
pub at_most : (a b : ℕ) (P : Type 0) → P ↔ (a ≤ b) → IsTrue (leb a b) ↔ P
at_most a b P same = (λ yes. same.1 (leb-true a b yes), λ p. le-leb a b (same.0 p))

pub always : (P : Type 0) → P → IsTrue true ↔ P
always P p = (λ _. p, λ _. refl)

pub never : (P : Type 0) → (P → ⊥) → IsTrue false ↔ P
never P none = (λ yes. absurd cc, λ p. absurd (none p))

-- a leaf of a kind that there may be, by the test of its numbers
pub by_kind : (b : Bool) (P Q : Type 0) → P ↔ ((b ≡ true) × Q) → (r : Bool) → b ≡ true → IsTrue r ↔ Q → IsTrue r ↔ P
by_kind b P Q same r is test = (λ yes. same.1 (is, test.0 yes), λ p. test.1 (same.0 p).1)

-- a leaf of a kind that there isn't
pub no_kind : (b : Bool) (P Q : Type 0) → P ↔ ((b ≡ true) × Q) → b ≡ false → IsTrue false ↔ P
no_kind b P Q same is = never P (λ p. true≢false (sym (same.0 p).0 ∙ is))

-- one more tree has the levels
pub same_more : (kinds : Kinds) (d : ℕ) (ts : List Tree) (i : ℕ) (x : Tree) → i < length ts → x ≡ get_or ts i x → HasLevels kinds d (shape_of x) → SameLevels kinds d ts i → SameLevels kinds d ts (i + 1)
same_more kinds d ts i x h is has same =
    let step : shapes_of (drop i ts) ≡ more (shape_of x) (shapes_of (drop (i + 1) ts)) = shapes_of-drop ts i x h ∙ ap (λ y. more (shape_of y) (shapes_of (drop (i + 1) ts))) (sym is) in
    (λ left. same.0 (subst (HaveLevels kinds d) (sym step) (has, left)), λ whole. (subst (HaveLevels kinds d) step (same.1 whole)).1)

-- a tree that has not the levels
pub not_more : (kinds : Kinds) (d : ℕ) (ts : List Tree) (i : ℕ) (x : Tree) → i < length ts → x ≡ get_or ts i x → (HasLevels kinds d (shape_of x) → ⊥) → SameLevels kinds d ts i → HaveLevels kinds d (shapes_of ts) → ⊥
not_more kinds d ts i x h is lacks same whole =
    let step : shapes_of (drop i ts) ≡ more (shape_of x) (shapes_of (drop (i + 1) ts)) = shapes_of-drop ts i x h ∙ ap (λ y. more (shape_of y) (shapes_of (drop (i + 1) ts))) (sym is) in
    lacks (subst (HaveLevels kinds d) step (same.1 whole)).0

-- all were looked at
pub same_all : (kinds : Kinds) (d : ℕ) (ts : List Tree) (i : ℕ) → length ts ≤ i → SameLevels kinds d ts i → HaveLevels kinds d (shapes_of ts)
same_all kinds d ts i end same = same.0 (subst (λ l. HaveLevels kinds d (shapes_of l)) (sym (drop_all i ts end)) tt)

-- copies of the first trees, and one more
pub copies_more : (cs ts : List Tree) (i : ℕ) (x y : Tree) → i < length ts → x ≡ get_or ts i x → shape_of y ≡ shape_of x → map shape_of cs ≡ map shape_of (take i ts) → map shape_of (cs ++ y ∷ []) ≡ map shape_of (take (i + 1) ts)
copies_more cs ts i x y h is same front = map-append shape_of cs (y ∷ []) ∙ ap (λ l. l ++ shape_of y ∷ []) front ∙ ap (λ s. map shape_of (take i ts) ++ s ∷ []) (same ∙ ap shape_of is) ∙ sym (map_more shape_of ts i x h)

pub copies_all : (cs ts : List Tree) (i : ℕ) → length ts ≤ i → map shape_of cs ≡ map shape_of (take i ts) → shapes_of cs ≡ shapes_of ts
copies_all cs ts i end same = ap shapes same ∙ ap shapes_of (take_all i ts end)
