-- A split whose last children were filled.
use Rattle.std.proofs.Common.{◌≡◌, ℕ, zero, suc, ◌+◌, ◌-◌, ◌<◌, ◌≤◌, List, [], ◌∷◌, length, set, get_or, slice_get, take, drop, Box, Vec, Global, Some, refl, sym, ap, ◌∙◌, subst, arith, take_all, not-suc-le-zero, le_of_suc-le-suc}
use Rattle.std.proofs.lemmas.Option.{slice_get_read, get_or_from_slice_get}
use Rattle.ec_loads.specs.Shape.{split}
use Rattle.ec_loads.specs.Search.{open_count, open_counts}
use Rattle.ec_cert.specs.declared.tree.Tree.{Tree, Split}
use Rattle.ec_cert.specs.Shapes.{shape_of, shapes_of}
use Rattle.ec_cert.proofs.TreeLemmas.{shape_of-Split, opens_step}
use Rattle.ec_book.specs.Numbered.{numbered, all_numbered, draw, draws}
use Rattle.ec_book.specs.Grown.{shape_at}
use Rattle.ec_book.proofs.RowLemmas.{Below-numbered}
use Rattle.ec_book.proofs.DrawLemmas.{draw-same, draw-closed, shape_at-take, length-take', length-set'', rows_done, slice_get-set, take-take', drop-end}

pub record IsPart (ts ls built0 built : List Tree) (i : ℕ) : Type 0 where
  pub within : i ≤ length ts
  pub long : length ls ≡ length ts
  pub left : open_counts (shapes_of (take i ts)) + length built0 ≡ length built + open_counts (shapes_of ts)
  pub built_is : built ≡ take (length built) built0
  pub front : (m : ℕ) → m < i → slice_get ls m ≡ slice_get ts m
  pub done : shapes_of (drop i ls) ≡ draws (shape_at built0) (all_numbered (length built) (shapes_of (drop i ts)))

drop-set : (ls : List Tree) (i : ℕ) (x : Tree) → drop (suc i) (set ls i x) ≡ drop (suc i) ls
drop-set [] zero x = refl
drop-set [] (suc i) x = refl
drop-set (l ∷ ls) zero x = refl
drop-set (l ∷ ls) (suc i) x = drop-set ls i x

set-back : (ls : List Tree) (i : ℕ) (x : Tree) → slice_get ls i ≡ Some x → set ls i x ≡ ls
set-back [] i x h = refl
set-back (l ∷ ls) zero x h = let same : l ≡ x = cc in λ j. sym same j ∷ ls
set-back (l ∷ ls) (suc i) x h = ap (λ w. l ∷ w) (set-back ls i x h)

module _ (ts ls built0 built : List Tree) (i j : ℕ) (h : IsPart ts ls built0 built i) (j_is : j + 1 ≡ i) where
  inside : j < length ls
  inside = omega (arith, h.long, h.within)

  pub child_at : (y x : Tree) → y ≡ get_or ls j y → x ≡ y → slice_get ts j ≡ Some x
  child_at y x at is = sym (h.front j (omega arith)) ∙ slice_get_read ls (length ls) j x refl inside (subst (λ w. w ≡ get_or ls j w) (sym is) at)

  pub child_get : (x : Tree) → slice_get ts j ≡ Some x → x ≡ get_or ts j x
  child_get x at = sym (get_or_from_slice_get ts j x x at)

  pub child_opens : (x : Tree) → slice_get ts j ≡ Some x → open_counts (shapes_of (take i ts)) ≡ open_counts (shapes_of (take j ts)) + open_count (shape_of x)
  child_opens x at = ap (λ w. open_counts (shapes_of (take w ts))) (sym j_is) ∙ opens_step ts j x (omega (arith, h.within)) (child_get x at)

  pub child_fits : (x : Tree) → slice_get ts j ≡ Some x → open_counts (shapes_of ts) ≤ length built0 → open_count (shape_of x) ≤ length built
  child_fits x at most = omega (arith, child_opens x at, h.left, most)

  -- the child's open leaves lie from the floor on, where those of the split do
  pub child_above : (floor : ℕ) (x : Tree) → slice_get ts j ≡ Some x → floor + open_counts (shapes_of ts) ≤ length built0 → floor + open_count (shape_of x) ≤ length built
  child_above floor x at most = omega (arith, child_opens x at, h.left, most)

  pub part-step : (x mid new : Tree) (built2 : List Tree) → slice_get ts j ≡ Some x → open_counts (shapes_of ts) ≤ length built0 → built2 ≡ take (length built - open_count (shape_of x)) built → shape_of new ≡ draw (shape_at built) (numbered (length built - open_count (shape_of x)) (shape_of x)) → IsPart ts (set (set ls j mid) j new) built0 built2 j
  part-step x mid new built2 at most built2_is new_is =
      let fits = child_fits x at most in
      let count = child_opens x at in
      let len : length built2 ≡ length built - open_count (shape_of x) = ap length built2_is ∙ length-take' built (length built - open_count (shape_of x)) (omega arith) in
      let next : suc j ≡ i = omega (arith, j_is) in
      let back : length built2 + open_count (shape_of x) ≡ length built = omega (arith, len, fits) in
      let one : shape_of new ≡ draw (shape_at built0) (numbered (length built2) (shape_of x)) =
      new_is ∙ ap (λ w. draw (shape_at built) (numbered w (shape_of x))) (sym len)
      ∙ draw-same (shape_at built) (shape_at built0) (length built) (λ m low. ap (λ w. shape_at w m) h.built_is ∙ shape_at-take built0 (length built) m low) (numbered (length built2) (shape_of x)) (Below-numbered (length built2) (shape_of x) (length built) (omega (arith, back))) in
      let rest : shapes_of (drop (suc j) (set ls j mid)) ≡ draws (shape_at built0) (all_numbered (length built2 + open_count (shape_of x)) (shapes_of (drop (suc j) ts))) =
      ap shapes_of (drop-set ls j mid) ∙ ap (λ w. shapes_of (drop w ls)) next ∙ h.done ∙ (λ r. draws (shape_at built0) (all_numbered (sym back r) (shapes_of (drop (sym next r) ts)))) in
      record {
        within = omega (arith, h.within);
        long = length-set'' (set ls j mid) j new ∙ length-set'' ls j mid ∙ h.long;
        left = omega (arith, h.left, count, back);
        built_is = built2_is ∙ ap (λ w. take (length built - open_count (shape_of x)) w) h.built_is ∙ take-take' built0 (length built - open_count (shape_of x)) (length built) (omega arith) ∙ ap (λ w. take w built0) (sym len);
        front = λ m low. slice_get-set (set ls j mid) j m new (λ e. omega (arith, e)) ∙ slice_get-set ls j m mid (λ e. omega (arith, e)) ∙ h.front m (omega arith);
        done = rows_done (shape_at built0) ts (set ls j mid) j (length built2) x new (omega (arith, inside, length-set'' ls j mid)) at one rest;
      }

  -- a child without an open leaf stays as it is
  pub part-skip : (x : Tree) → slice_get ts j ≡ Some x → open_count (shape_of x) ≡ 0 → open_counts (shapes_of ts) ≤ length built0 → IsPart ts ls built0 built j
  part-skip x at none most =
      let here : slice_get ls j ≡ Some x = h.front j (omega arith) ∙ at in
      let same : set ls j x ≡ ls = set-back ls j x here in
      let whole : built ≡ take (length built - open_count (shape_of x)) built = sym (take_all (length built - open_count (shape_of x)) built (omega (arith, none))) in
      let drawn : shape_of x ≡ draw (shape_at built) (numbered (length built - open_count (shape_of x)) (shape_of x)) = sym (draw-closed (shape_at built) (shape_of x) (length built - open_count (shape_of x)) none) in
      subst (λ w. IsPart ts w built0 built j) (ap (λ w. set w j x) same ∙ same) (part-step x x x built at most whole drawn)

is_there : (ts : List Tree) (i : ℕ) → i < length ts → (x : Tree) × (slice_get ts i ≡ Some x)
is_there [] i h = absurd (not-suc-le-zero h)
is_there (t ∷ ts) zero h = (t, refl)
is_there (t ∷ ts) (suc i) h = is_there ts i (le_of_suc-le-suc h)

-- no child before has an open leaf
pub part-rest : (ts ls built0 built : List Tree) (i : ℕ) → IsPart ts ls built0 built i → open_counts (shapes_of (take i ts)) ≡ 0 → open_counts (shapes_of ts) ≤ length built0 → IsPart ts ls built0 built 0
part-rest ts ls built0 built zero h none most = h
part-rest ts ls built0 built (suc i) h none most =
    let is : i + 1 ≡ suc i = omega arith in
    let within : i < length ts = omega (arith, h.within) in
    let got = is_there ts i within in
    let count = child_opens ts ls built0 built (suc i) i h is got.0 got.1 in
    part-rest ts ls built0 built i (part-skip ts ls built0 built (suc i) i h is got.0 got.1 (omega (arith, count, none)) most) (omega (arith, count, none)) most

pub part-start : (ts built0 : List Tree) → IsPart ts ts built0 built0 (length ts)
part-start ts built0 = record {
  within = omega arith;
  long = refl;
  left = (let all = ap (λ w. open_counts (shapes_of w)) (take-all ts) in omega (arith, all));
  built_is = sym (take-all built0);
  front = λ m low. refl;
  done = ap shapes_of (drop-end ts (length ts) (omega arith)) ∙ sym (ap (λ w. draws (shape_at built0) (all_numbered (length built0) (shapes_of w))) (drop-end ts (length ts) (omega arith)));
}
  where
    take-all : (xs : List Tree) → take (length xs) xs ≡ xs
    take-all [] = refl
    take-all (x ∷ xs) = ap (λ w. x ∷ w) (take-all xs)

-- where no leaf is open, no tree is taken
pub none_taken : (tree : Tree) (built : List Tree) → open_count (shape_of tree) ≡ 0 → built ≡ take (length built - open_count (shape_of tree)) built
none_taken tree built none = sym (take_all (length built - open_count (shape_of tree)) built (omega (arith, none)))

-- what a split opens
pub opens_all : (tree : Tree) (trees : Vec Tree Global) → shape_of tree ≡ split (shapes_of trees.items) → open_count (shape_of tree) ≡ open_counts (shapes_of trees.items)
opens_all tree trees is = ap open_count is

module _ (ts ls built0 built : List Tree) (h : IsPart ts ls built0 built 0) where
  end_len : open_counts (shapes_of ts) ≤ length built0 → length built ≡ length built0 - open_counts (shapes_of ts)
  end_len most = let left = h.left in omega (arith, left, most)

  -- the trees that are left
  pub part-left : (tree : Tree) (trees : Vec Tree Global) → shape_of tree ≡ split (shapes_of trees.items) → trees.items ≡ ts → open_count (shape_of tree) ≤ length built0 → built ≡ take (length built0 - open_count (shape_of tree)) built0
  part-left tree trees is same most =
      let all : open_count (shape_of tree) ≡ open_counts (shapes_of ts) = opens_all tree trees is ∙ ap (λ w. open_counts (shapes_of w)) same in
      h.built_is ∙ ap (λ w. take w built0) (end_len (omega (arith, all, most)) ∙ ap (λ w. length built0 - w) (sym all))

  pub part-tree : (tree : Tree) (trees : Vec Tree Global) (made : Box (Vec Tree Global) Global) → shape_of tree ≡ split (shapes_of trees.items) → trees.items ≡ ts → made.value.items ≡ ls → open_count (shape_of tree) ≤ length built0
      → shape_of (Split made) ≡ draw (shape_at built0) (numbered (length built0 - open_count (shape_of tree)) (shape_of tree))
  part-tree tree trees made is same made_is most =
      let all : open_count (shape_of tree) ≡ open_counts (shapes_of ts) = opens_all tree trees is ∙ ap (λ w. open_counts (shapes_of w)) same in
      let len : length built ≡ length built0 - open_count (shape_of tree) = end_len (omega (arith, all, most)) ∙ ap (λ w. length built0 - w) (sym all) in
      shape_of-Split made ∙ ap (λ w. split (shapes_of w)) made_is ∙ ap split h.done
      ∙ ap (λ w. split (draws (shape_at built0) (all_numbered w (shapes_of ts)))) len
      ∙ ap (λ w. split (draws (shape_at built0) (all_numbered (length built0 - open_count (shape_of tree)) (shapes_of w)))) (sym same)
      ∙ sym (ap (λ w. draw (shape_at built0) (numbered (length built0 - open_count (shape_of tree)) w)) is)
