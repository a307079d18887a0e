-- Two splits, the last children of which were merged.
use Rattle.std.proofs.Common.{◌≡◌, ℕ, zero, suc, ◌+◌, ◌<◌, ◌≤◌, List, [], ◌∷◌, ◌++◌, length, set, get_or, slice_get, take, drop, Box, Vec, Global, Some, refl, sym, ap, ◌∙◌, subst, arith, not-suc-le-zero, le_of_suc-le-suc}
use Rattle.std.proofs.lemmas.Option.{slice_get_read, get_or_from_slice_get}
use Rattle.ec_loads.specs.Shape.{Shape, split, more, shape_count}
use Rattle.ec_cert.specs.declared.tree.Tree.{Tree, Split}
use Rattle.ec_cert.specs.Shapes.{shape_of, shapes_of}
use Rattle.ec_cert.proofs.TreeLemmas.{shape_of-Split, shape_count-shapes_of}
use Rattle.ec_cert_merge.specs.Merged.{tree_at, child_at, AreAsWide, AreAlike, IsMerged}
use Rattle.ec_cert_merge.proofs.BothLemmas.{both, all_both, both-merged, merged-is}
use Rattle.ec_book.proofs.DrawLemmas.{length-set'', slice_get-set, drop-end}

pub child-get : (ts : List Tree) (j : ℕ) (x : Tree) → slice_get ts j ≡ Some x → x ≡ get_or ts j x
child-get ts j x at = sym (get_or_from_slice_get ts j x x at)

-- of the first's trees ts and the second's us those from i on are merged in ls, and of us the first i are left
pub record IsPart (ts us ls left : List Tree) (i : ℕ) : Type 0 where
  pub within : i ≤ length ts
  pub same : length us ≡ length ts
  pub long : length ls ≡ length ts
  pub rest : left ≡ take i us
  pub front : (m : ℕ) → m < i → slice_get ls m ≡ slice_get ts m
  pub done : shapes_of (drop i ls) ≡ all_both (shapes_of (drop i ts)) (shapes_of (drop i us))

drop-set : (ls : List Tree) (i : ℕ) (x : Tree) → drop (suc i) (set ls i x) ≡ drop (suc i) ls
drop-set [] zero x = refl
drop-set [] (suc i) x = refl
drop-set (l ∷ ls) zero x = refl
drop-set (l ∷ ls) (suc i) x = drop-set ls i x

-- the last of the first ones
take-last : (us front : List Tree) (j : ℕ) (y : Tree) → j < length us → take (suc j) us ≡ front ++ y ∷ [] → (front ≡ take j us) × (slice_get us j ≡ Some y)
take-last [] front j y low e = absurd (not-suc-le-zero low)
take-last (u ∷ us) [] zero y low e = (refl, cc)
take-last (u ∷ us) (x ∷ []) zero y low e = absurd cc
take-last (u ∷ us) (x ∷ x2 ∷ front) zero y low e = absurd cc
take-last (u ∷ us) [] (suc j) y low e = absurd (more_than us j y (le_of_suc-le-suc low) cc)
  where
    more_than : (us : List Tree) (j : ℕ) (y : Tree) → j < length us → take (suc j) us ≡ [] → ⊥
    more_than [] j y low e = absurd (not-suc-le-zero low)
    more_than (u ∷ us) j y low e = cc
take-last (u ∷ us) (x ∷ front) (suc j) y low e =
    let head : u ≡ x = cc in
    let tail : take (suc j) us ≡ front ++ y ∷ [] = cc in
    let found = take-last us front j y (le_of_suc-le-suc low) tail in
    ((λ k. sym head k ∷ found.0 k), found.1)

-- one child more
done-more : (ts us ls : List Tree) (j : ℕ) (x y new : Tree) → j < length ls → slice_get ts j ≡ Some x → slice_get us j ≡ Some y → shape_of new ≡ both (shape_of x) (shape_of y)
    → shapes_of (drop (suc j) ls) ≡ all_both (shapes_of (drop (suc j) ts)) (shapes_of (drop (suc j) us)) → shapes_of (drop j (set ls j new)) ≡ all_both (shapes_of (drop j ts)) (shapes_of (drop j us))
done-more ts us [] j x y new low at too one rest = absurd (not-suc-le-zero low)
done-more [] us (l ∷ ls) j x y new low at too one rest = absurd cc
done-more (t ∷ ts) [] (l ∷ ls) j x y new low at too one rest = absurd cc
done-more (t ∷ ts) (u ∷ us) (l ∷ ls) zero x y new low at too one rest =
    let same : x ≡ t = cc in
    let same2 : y ≡ u = cc in
    λ k. more ((one ∙ (λ q. both (shape_of (same q)) (shape_of (same2 q)))) k) (rest k)
done-more (t ∷ ts) (u ∷ us) (l ∷ ls) (suc j) x y new low at too one rest = done-more ts us ls j x y new (le_of_suc-le-suc low) at too one rest

module _ (ts us ls left : List Tree) (i j : ℕ) (h : IsPart ts us ls left i) (j_is : j + 1 ≡ i) where
  inside : j < length ls
  inside = omega (arith, j_is, h.long, h.within)

  next-is : suc j ≡ i
  next-is = omega (arith, j_is)

  pub child-here : (y x : Tree) → y ≡ get_or ls j y → x ≡ y → slice_get ts j ≡ Some x
  child-here y x at is = sym (h.front j (omega (arith, j_is))) ∙ slice_get_read ls (length ls) j x refl inside (subst (λ w. w ≡ get_or ls j w) (sym is) at)

  pub other-here : (front : List Tree) (y : Tree) → left ≡ front ++ y ∷ [] → (front ≡ take j us) × (slice_get us j ≡ Some y)
  other-here front y is = take-last us front j y (omega (arith, j_is, h.same, h.within)) (ap (λ w. take w us) next-is ∙ sym h.rest ∙ is)

  pub part-more : (x y mid new : Tree) (front : List Tree) → slice_get ts j ≡ Some x → left ≡ front ++ y ∷ [] → IsMerged (shape_of x) (shape_of y) (shape_of new) → IsPart ts us (set (set ls j mid) j new) front j
  part-more x y mid new front at is merged =
      let other = other-here front y is in
      let next : suc j ≡ i = omega (arith, j_is) in
      let rest : shapes_of (drop (suc j) (set ls j mid)) ≡ all_both (shapes_of (drop (suc j) ts)) (shapes_of (drop (suc j) us)) =
      ap shapes_of (drop-set ls j mid) ∙ ap (λ w. shapes_of (drop w ls)) next ∙ h.done ∙ (λ r. all_both (shapes_of (drop (sym next r) ts)) (shapes_of (drop (sym next r) us))) in
      record {
        within = omega (arith, j_is, h.within);
        same = h.same;
        long = length-set'' (set ls j mid) j new ∙ length-set'' ls j mid ∙ h.long;
        rest = other.0;
        front = λ m low. slice_get-set (set ls j mid) j m new (λ e. omega (arith, e, low)) ∙ slice_get-set ls j m mid (λ e. omega (arith, e, low)) ∙ h.front m (omega (arith, j_is, low));
        done = done-more ts us (set ls j mid) j x y new (omega (arith, inside, length-set'' ls j mid)) at other.1 (merged-is (shape_of x) (shape_of y) (shape_of new) merged) rest;
      }

  -- some tree is left
  pub some-left : left ≡ [] → ⊥
  some-left none = none-taken us j (omega (arith, j_is, h.same, h.within)) (ap (λ w. take w us) next-is ∙ sym h.rest ∙ none)
    where
      none-taken : (us : List Tree) (j : ℕ) → j < length us → take (suc j) us ≡ [] → ⊥
      none-taken [] j low e = absurd (not-suc-le-zero low)
      none-taken (u ∷ us) j low e = cc

-- at first none is merged
take-whole : (xs : List Tree) (n : ℕ) → length xs ≤ n → take n xs ≡ xs
take-whole [] zero h = refl
take-whole [] (suc n) h = refl
take-whole (x ∷ xs) zero h = absurd (not-suc-le-zero h)
take-whole (x ∷ xs) (suc n) h = ap (λ w. x ∷ w) (take-whole xs n (le_of_suc-le-suc h))

pub part-start : (ts us : List Tree) (i : ℕ) → i ≡ length ts → length us ≡ length ts → IsPart ts us ts us i
part-start ts us i is same = record {
  within = omega (arith, is);
  same = same;
  long = refl;
  rest = sym (take-whole us i (omega (arith, is, same)));
  front = λ m low. refl;
  done = ap shapes_of (drop-end ts i (omega (arith, is))) ∙ sym (λ r. all_both (shapes_of (drop-end ts i (omega (arith, is)) r)) (shapes_of (drop-end us i (omega (arith, is, same)) r)));
}

-- two splits that can be merged are as wide
pub same-count : (a b : Tree) (ts us : List Tree) → shape_of a ≡ split (shapes_of ts) → shape_of b ≡ split (shapes_of us) → AreAlike (shape_of a) (shape_of b) → length us ≡ length ts
same-count a b ts us is is2 alike =
    let wide : shape_count (shapes_of ts) ≡ shape_count (shapes_of us) = subst (λ w. AreAsWide (Some w) (Some (split (shapes_of us)))) is (subst (λ w. AreAsWide (Some (shape_of a)) (Some w)) is2 (alike [])) in
    sym (shape_count-shapes_of us) ∙ sym wide ∙ shape_count-shapes_of ts

-- their children can be merged
child-of : (ts : List Tree) (j : ℕ) (x : Tree) (path : List ℕ) → slice_get ts j ≡ Some x → child_at j path (shapes_of ts) ≡ tree_at path (shape_of x)
child-of [] j x path e = absurd cc
child-of (t ∷ ts) zero x path e = let same : t ≡ x = cc in ap (λ w. tree_at path (shape_of w)) same
child-of (t ∷ ts) (suc j) x path e = child-of ts j x path e

pub child-alike : (a b : Tree) (ts us : List Tree) (j : ℕ) (x y : Tree) → shape_of a ≡ split (shapes_of ts) → shape_of b ≡ split (shapes_of us) → AreAlike (shape_of a) (shape_of b) → slice_get ts j ≡ Some x → slice_get us j ≡ Some y → AreAlike (shape_of x) (shape_of y)
child-alike a b ts us j x y is is2 alike at too = λ path.
    let here : AreAsWide (child_at j path (shapes_of ts)) (child_at j path (shapes_of us)) =
    subst (λ w. AreAsWide (tree_at (j ∷ path) w) (child_at j path (shapes_of us))) is (subst (λ w. AreAsWide (tree_at (j ∷ path) (shape_of a)) (tree_at (j ∷ path) w)) is2 (alike (j ∷ path))) in
    subst (λ w. AreAsWide w (tree_at path (shape_of y))) (child-of ts j x path at) (subst (λ w. AreAsWide (child_at j path (shapes_of ts)) w) (child-of us j y path too) here)

-- what is both is the merge
pub merged-by : (a b m : Shape) → AreAlike a b → m ≡ both a b → IsMerged a b m
merged-by a b m alike is = subst (IsMerged a b) (sym is) (both-merged a b alike)

-- at the end all are merged
pub part-end : (ts us ls left : List Tree) (a b : Tree) (made : Box (Vec Tree Global) Global) → IsPart ts us ls left 0 → shape_of a ≡ split (shapes_of ts) → shape_of b ≡ split (shapes_of us) → made.value.items ≡ ls → AreAlike (shape_of a) (shape_of b) → IsMerged (shape_of a) (shape_of b) (shape_of (Split made))
part-end ts us ls left a b made h is is2 made_is alike =
    merged-by (shape_of a) (shape_of b) (shape_of (Split made)) alike
    (shape_of-Split made ∙ ap (λ w. split (shapes_of w)) made_is ∙ ap split h.done ∙ sym (λ r. both (is r) (is2 r)))
