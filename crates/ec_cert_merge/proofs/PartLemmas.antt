-- Merges of trees that grow from one tree.
use Rattle.std.proofs.Common.{◌≡◌, ℕ, zero, suc, ◌+◌, ◌<◌, ◌≤◌, [], ◌∷◌, map, refl, sym, ap, ◌∙◌, subst, inl, inr, arith}
use Rattle.std.proofs.lemmas.Bool.{cases_lt}
use Rattle.ec_loads.specs.Shape.{Shape, Shapes, split, leaf, open_leaf, no_shapes, more}
use Rattle.ec_loads.specs.Search.{open_count, open_counts}
use Rattle.ec_book.specs.Numbered.{numbered, all_numbered, draw, draws}
use Rattle.ec_cert_merge.specs.Merged.{IsMerged}
use Rattle.ec_cert_merge.specs.Laws.{PartsMerge, PartsClose, IsMergedInTurn}
use Rattle.ec_cert_merge.proofs.BothLemmas.{both, all_both, merged-is, AreMerged, one-closed}

-- the merges of what stands in place of the open leaves
abbrev each : (ℕ → Shape) → (ℕ → Shape) → ℕ → Shape
each f g k = both (f k) (g k)

mutual
  draw-both : (f g : ℕ → Shape) (k : ℕ) (s : Shape) → both (draw f (numbered k s)) (draw g (numbered k s)) ≡ draw (each f g) (numbered k s)
  draw-both f g k (split ts) = ap split (draws-both f g k ts)
  draw-both f g k (leaf l) = refl
  draw-both f g k open_leaf = refl

  draws-both : (f g : ℕ → Shape) (k : ℕ) (ts : Shapes) → all_both (draws f (all_numbered k ts)) (draws g (all_numbered k ts)) ≡ draws (each f g) (all_numbered k ts)
  draws-both f g k no_shapes = refl
  draws-both f g k (more t ts) = λ j. more (draw-both f g k t j) (draws-both f g (k + open_count t) ts j)

-- what stands at each open leaf is merged
mutual
  parts-at : (f g h : ℕ → Shape) (k : ℕ) (s : Shape) → IsMerged (draw f (numbered k s)) (draw g (numbered k s)) (draw h (numbered k s)) → (j : ℕ) → k ≤ j → j < k + open_count s → IsMerged (f j) (g j) (h j)
  parts-at f g h k (split ts) is j least most = all-parts-at f g h k ts (λ i path. is (i ∷ path)) j least most
  parts-at f g h k (leaf l) is j least most = absurd (omega (arith, least, most))
  parts-at f g h k open_leaf is j least most = subst (λ w. IsMerged (f w) (g w) (h w)) (omega (arith, least, most)) is

  all-parts-at : (f g h : ℕ → Shape) (k : ℕ) (ts : Shapes) → AreMerged (draws f (all_numbered k ts)) (draws g (all_numbered k ts)) (draws h (all_numbered k ts)) → (j : ℕ) → k ≤ j → j < k + open_counts ts → IsMerged (f j) (g j) (h j)
  all-parts-at f g h k no_shapes is j least most = absurd (omega (arith, least, most))
  all-parts-at f g h k (more t ts) is j least most =
      elim (cases_lt j (k + open_count t)) [
        | inl low ↦ parts-at f g h k t (λ path. is zero path) j least low
        | inr high ↦ all-parts-at f g h (k + open_count t) ts (λ i path. is (suc i) path) j high (omega (arith, most))
      ]

pub parts-merge : PartsMerge
parts-merge given f g m is =
    let drawn : m ≡ draw (each f g) (numbered 0 given) = merged-is (draw f (numbered 0 given)) (draw g (numbered 0 given)) m is ∙ draw-both f g 0 given in (
      each f g,
      drawn,
      λ k low. parts-at f g (each f g) 0 given (subst (IsMerged (draw f (numbered 0 given)) (draw g (numbered 0 given))) drawn is) k (omega arith) (omega (arith, low)),
    )

-- a tree in place of whose open leaves are trees without one
mutual
  drawn-closed : (h : ℕ → Shape) (k : ℕ) (s : Shape) → ((j : ℕ) → k ≤ j → j < k + open_count s → open_count (h j) ≡ 0) → open_count (draw h (numbered k s)) ≡ 0
  drawn-closed h k (split ts) none = all-drawn-closed h k ts none
  drawn-closed h k (leaf l) none = refl
  drawn-closed h k open_leaf none = none k (omega arith) (omega arith)

  all-drawn-closed : (h : ℕ → Shape) (k : ℕ) (ts : Shapes) → ((j : ℕ) → k ≤ j → j < k + open_counts ts → open_count (h j) ≡ 0) → open_counts (draws h (all_numbered k ts)) ≡ 0
  all-drawn-closed h k no_shapes none = refl
  all-drawn-closed h k (more t ts) none =
      let one = drawn-closed h k t (λ j least most. none j least (omega (arith, most))) in
      let rest = all-drawn-closed h (k + open_count t) ts (λ j least most. none j (omega (arith, least)) (omega (arith, most))) in
      omega (arith, one, rest)

pub parts-close : PartsClose
parts-close given f [] m is closed =
    ap open_count (sym is) ∙ drawn-closed f 0 given (λ j least most. elim (closed j (omega (arith, most))) [ inl none ↦ none | inr never ↦ absurd never ])
parts-close given f (g ∷ gs) m (c, one, rest) closed =
    let (h, drawn, each_is) = parts-merge given f g c one in
    parts-close given h gs m (subst (λ w. IsMergedInTurn w (map (λ e. draw e (numbered 0 given)) gs) m) drawn rest) (λ k low. elim (closed k low) [
      | inl none ↦ inl (one-closed (f k) (g k) (h k) (each_is k low) (inl none))
      | inr other ↦ elim other [ inl none ↦ inl (one-closed (f k) (g k) (h k) (each_is k low) (inr none)) | inr later ↦ inr later ]
    ])
