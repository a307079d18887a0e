-- The last trees in place of the open leaves, from the last report to the first.
use Rattle.std.proofs.Common.{◌≡◌, ◌≢◌, ℕ, zero, suc, ◌+◌, ◌<◌, ◌≤◌, ◌==◌, Bool, true, false, eqb, if◌then◌else◌, List, [], ◌∷◌, ◌++◌, length, set, slice_get, take, drop, replicate, Some, refl, sym, ap, ◌∙◌, subst, arith, not-suc-le-zero, le_of_suc-le-suc, rules, IsTrue, ◌↔◌}
use Rattle.ec_loads.specs.Shape.{average, Leaf, Shape, Shapes, tick, full, weighted, split, leaf, open_leaf, no_shapes, more}
use Rattle.ec_loads.specs.Search.{open_count, open_counts}
use Rattle.ec_cert.specs.declared.tree.Tree.{Tree, TickLeaf, FullLeaf, Average, Weights, OpenLeaf, the_lemmas}
use Rattle.ec_cert.specs.Shapes.{shape_of, shapes_of}
use Rattle.ec_book.specs.declared.report.Report.{Report}
use Rattle.ec_book.specs.Numbered.{Numbered, Numbereds, branch, closed, gap, last, next, numbered, all_numbered, fill, fills, plug, draw, draws}
use Rattle.ec_book.specs.Grown.{grown, Chain, shape_at}
use Rattle.ec_book.proofs.PlugLemmas.{Below, AllBelow, Below-fill}
use Rattle.ec_book.proofs.RowLemmas.{Below-numbered}

module _ (f g : ℕ → Shape) (c : ℕ) (same : (m : ℕ) → m < c → f m ≡ g m) where
  mutual
    pub draw-same : (t : Numbered) → Below c t → draw f t ≡ draw g t
    draw-same (branch ts) b = ap split (draws-same ts b)
    draw-same (closed s) b = refl
    draw-same (gap m) b = same m b

    pub draws-same : (ts : Numbereds) → AllBelow c ts → draws f ts ≡ draws g ts
    draws-same last b = refl
    draws-same (next t ts) b = (λ j. more (draw-same t b.0 j) (draws-same ts b.1 j))

-- without an open leaf there is nothing to draw
mutual
  pub draw-closed : (f : ℕ → Shape) (s : Shape) (k : ℕ) → open_count s ≡ 0 → draw f (numbered k s) ≡ s
  draw-closed f (split ts) k none = ap split (draws-closed f ts k none)
  draw-closed f (leaf l) k none = refl
  draw-closed f open_leaf k none = absurd (omega (arith, none))

  draws-closed : (f : ℕ → Shape) (ss : Shapes) (k : ℕ) → open_counts ss ≡ 0 → draws f (all_numbered k ss) ≡ ss
  draws-closed f no_shapes k none = refl
  draws-closed f (more s ss) k none =
      let one : open_count s ≡ 0 = omega (arith, none) in
      let rest : open_counts ss ≡ 0 = omega (arith, none) in
      λ j. more (draw-closed f s k one j) (draws-closed f ss (k + open_count s) rest j)

-- drawing a filled tree
module _ (f g : ℕ → Shape) (h : ℕ → Numbered) (c : ℕ) (each : (m : ℕ) → m < c → f m ≡ draw g (h m)) where
  mutual
    pub draw-fill : (t : Numbered) → Below c t → draw f t ≡ draw g (fill h t)
    draw-fill (branch ts) b = ap split (draws-fills ts b)
    draw-fill (closed s) b = refl
    draw-fill (gap m) b = each m b

    draws-fills : (ts : Numbereds) → AllBelow c ts → draws f ts ≡ draws g (fills h ts)
    draws-fills last b = refl
    draws-fills (next t ts) b = (λ j. more (draw-fill t b.0 j) (draws-fills ts b.1 j))

pub shape_at-take : (ts : List Tree) (k m : ℕ) → m < k → shape_at (take k ts) m ≡ shape_at ts m
shape_at-take [] zero m h = refl
shape_at-take [] (suc k) m h = refl
shape_at-take (t ∷ ts) zero m h = absurd (not-suc-le-zero h)
shape_at-take (t ∷ ts) (suc k) zero h = refl
shape_at-take (t ∷ ts) (suc k) (suc m) h = shape_at-take ts k m (le_of_suc-le-suc h)

shape_at-set : (ts : List Tree) (p : ℕ) (x : Tree) → p < length ts → shape_at (set ts p x) p ≡ shape_of x
shape_at-set [] p x h = absurd (not-suc-le-zero h)
shape_at-set (t ∷ ts) zero x h = refl
shape_at-set (t ∷ ts) (suc p) x h = shape_at-set ts p x (le_of_suc-le-suc h)

shape_at-other : (ts : List Tree) (p m : ℕ) (x : Tree) → m ≢ p → shape_at (set ts p x) m ≡ shape_at ts m
shape_at-other [] p m x h = refl
shape_at-other (t ∷ ts) zero zero x h = absurd (h refl)
shape_at-other (t ∷ ts) zero (suc m) x h = refl
shape_at-other (t ∷ ts) (suc p) zero x h = refl
shape_at-other (t ∷ ts) (suc p) (suc m) x h = shape_at-other ts p m x (λ e. h (ap suc e))

pub shape_of-OpenLeaf : shape_of OpenLeaf ≡ open_leaf
shape_of-OpenLeaf = search (rules, the_lemmas)

pub shape_of-Average : shape_of Average ≡ leaf average
shape_of-Average = search (rules, the_lemmas)

-- an open leaf and a split aren't closed leaves
pub open_not_closed : (t : Tree) → shape_of t ≡ open_leaf → IsTrue false ↔ ((l : Leaf) × (shape_of t ≡ leaf l))
open_not_closed t is = (
  λ yes. absurd cc,
  λ h. let one : open_count (shape_of t) ≡ 1 = ap open_count is in let none : open_count (shape_of t) ≡ 0 = ap open_count h.1 in absurd (omega (arith, one, none)),
)

pub split_not_closed : (t : Tree) (ts : Shapes) → shape_of t ≡ split ts → IsTrue false ↔ ((l : Leaf) × (shape_of t ≡ leaf l))
split_not_closed t ts is = (
  λ yes. absurd cc,
  λ h. let clash : leaf h.0 ≡ split ts = sym h.1 ∙ is in absurd cc,
)

pub shape_of-TickLeaf : (t : ℕ) → shape_of (TickLeaf t) ≡ leaf (tick t)
shape_of-TickLeaf t = search (rules, the_lemmas)

pub shape_of-FullLeaf : (t s : ℕ) → shape_of (FullLeaf t s) ≡ leaf (full t s)
shape_of-FullLeaf t s = search (rules, the_lemmas)

pub shape_of-Weights : (w : List ℕ) → shape_of (Weights w) ≡ leaf (weighted w)
shape_of-Weights w = search (rules, the_lemmas)

pub shape_at-open : (k m : ℕ) → shape_at (replicate k OpenLeaf) m ≡ open_leaf
shape_at-open zero m = refl
shape_at-open (suc k) zero = shape_of-OpenLeaf
shape_at-open (suc k) (suc m) = shape_at-open k m

pub shape_at-last : (ts : List Tree) (x : Tree) → shape_at (ts ++ x ∷ []) (length ts) ≡ shape_of x
shape_at-last [] x = refl
shape_at-last (t ∷ ts) x = shape_at-last ts x

pub length-take' : (ts : List Tree) (k : ℕ) → k ≤ length ts → length (take k ts) ≡ k
length-take' [] zero h = refl
length-take' [] (suc k) h = absurd (not-suc-le-zero h)
length-take' (t ∷ ts) zero h = refl
length-take' (t ∷ ts) (suc k) h = ap suc (length-take' ts k (le_of_suc-le-suc h))

pub length-set'' : (ts : List Tree) (i : ℕ) (x : Tree) → length (set ts i x) ≡ length ts
length-set'' [] i x = refl
length-set'' (t ∷ ts) zero x = refl
length-set'' (t ∷ ts) (suc i) x = ap suc (length-set'' ts i x)

abbrev pick : Bool → Numbered → ℕ → Numbered
pick b s m = if b then s else gap m

-- one report fewer, and its tree among the built ones
pub draw_step : (built left : List Tree) (t : Numbered) (p first : ℕ) (tree : Shape) (sub : Tree) → Below first t → p < first → first ≤ length built → left ≡ take first built → shape_of sub ≡ draw (shape_at built) (numbered first tree) → draw (shape_at (set left p sub)) t ≡ draw (shape_at built) (plug p (numbered first tree) t)
draw_step built left t p first tree sub below less long is done =
    draw-fill (shape_at (set left p sub)) (shape_at built) (λ m. if m == p then numbered first tree else gap m) first
    (λ m low. (elim (eqb m p) as (λ b. eqb m p ≡ b → shape_at (set left p sub) m ≡ draw (shape_at built) (pick b (numbered first tree) m)) [
      | true ↦ λ e. let same : m ≡ p = grind arith in rw same (shape_at-set left p sub (rw is (rw (length-take' built first long) less)) ∙ done)
      | false ↦ λ e. let other : m ≢ p = grind arith in shape_at-other left p m sub other ∙ ap (λ w. shape_at w m) is ∙ shape_at-take built first m low
    ]) refl)
    t below

pub chain-pop : (c : ℕ) (rs : List Report) (e : ℕ) (r : Report) → Chain c (rs ++ r ∷ []) e → Chain c rs r.first × (r.piece < r.first) × (r.first + open_count (shape_of r.tree) ≡ e)
chain-pop c [] e r h = (sym h.0, rw h.0 h.1, rw h.0 h.2)
chain-pop c (x ∷ rs) e r h = let rest = chain-pop (c + open_count (shape_of x.tree)) rs e r h.2 in ((h.0, h.1, rest.0), rest.1, rest.2)

pub grown-below : (c : ℕ) (rs : List Report) (e : ℕ) (t : Numbered) → Chain c rs e → Below c t → Below e (grown t rs)
grown-below c [] e t h b = subst (λ w. Below w t) h b
grown-below c (x ∷ rs) e t h b =
    let n = open_count (shape_of x.tree) in
    grown-below (c + n) rs e (plug x.piece (numbered x.first (shape_of x.tree)) t) h.2
    (Below-fill (λ m. if m == x.piece then numbered x.first (shape_of x.tree) else gap m) c (c + n)
    (λ m low. (elim (eqb m x.piece) as (λ b. Below (c + n) (if b then numbered x.first (shape_of x.tree) else gap m)) [
      | true ↦ Below-numbered x.first (shape_of x.tree) (c + n) (omega (arith, h.0))
      | false ↦ omega arith
    ])) t b)

-- one child fewer
pub rows_done : (f : ℕ → Shape) (ts ls : List Tree) (i k : ℕ) (child new : Tree) → i < length ls → slice_get ts i ≡ Some child → shape_of new ≡ draw f (numbered k (shape_of child))
    → shapes_of (drop (suc i) ls) ≡ draws f (all_numbered (k + open_count (shape_of child)) (shapes_of (drop (suc i) ts))) → shapes_of (drop i (set ls i new)) ≡ draws f (all_numbered k (shapes_of (drop i ts)))
rows_done f ts [] i k child new h at one rest = absurd (not-suc-le-zero h)
rows_done f [] (l ∷ ls) i k child new h at one rest = absurd (cc)
rows_done f (t ∷ ts) (l ∷ ls) zero k child new h at one rest =
    let same : child ≡ t = cc in
    (λ j. more ((one ∙ ap (λ w. draw f (numbered k (shape_of w))) same) j) ((rest ∙ ap (λ w. draws f (all_numbered (k + open_count (shape_of w)) (shapes_of ts))) same) j))
rows_done f (t ∷ ts) (l ∷ ls) (suc i) k child new h at one rest = rows_done f ts ls i k child new (le_of_suc-le-suc h) at one rest

pub slice_get-set : (ts : List Tree) (i m : ℕ) (x : Tree) → m ≢ i → slice_get (set ts i x) m ≡ slice_get ts m
slice_get-set [] i m x h = refl
slice_get-set (t ∷ ts) zero zero x h = absurd (h refl)
slice_get-set (t ∷ ts) zero (suc m) x h = refl
slice_get-set (t ∷ ts) (suc i) zero x h = refl
slice_get-set (t ∷ ts) (suc i) (suc m) x h = slice_get-set ts i m x (λ e. h (ap suc e))

pub take-take' : (ts : List Tree) (a b : ℕ) → a ≤ b → take a (take b ts) ≡ take a ts
take-take' [] zero b h = refl
take-take' [] (suc a) zero h = refl
take-take' [] (suc a) (suc b) h = refl
take-take' (t ∷ ts) zero b h = refl
take-take' (t ∷ ts) (suc a) zero h = absurd (not-suc-le-zero h)
take-take' (t ∷ ts) (suc a) (suc b) h = ap (λ w. t ∷ w) (take-take' ts a b (le_of_suc-le-suc h))

pub drop-end : (ts : List Tree) (i : ℕ) → length ts ≤ i → drop i ts ≡ []
drop-end [] zero h = refl
drop-end [] (suc i) h = refl
drop-end (t ∷ ts) zero h = absurd (not-suc-le-zero h)
drop-end (t ∷ ts) (suc i) h = drop-end ts i (le_of_suc-le-suc h)
