-- A step that does not raise the word, and lowers it to no number that no seat lowered to, keeps the rule.
-- The rule has two sides: the word is at most what each seat knows, and at least the least that one of them put there.
use Rattle.std.proofs.Common.{◌≡◌, ◌≢◌, ℕ, zero, suc, ◌≤◌, List, [], ◌∷◌, set, slice_index, refl, subst, ⊎_elim, le_refl, le_trans, zero-le, sym, ◌∙◌, min, arith}
use Rattle.std.specs.Prelude.{slice_set}
use mathlib.Core.Option.{some, some-ne-none, some-injective}
use lib.ListN.{get_elem?}
use Rattle.atomic_table.specs.Table.{Me, keeps, Allows, Splits, opening}
use Rattle.atomic_table.proofs.Lists.{at_set, at_snoc, at_longer, set_again}
use Rattle.ec_search_queues.specs.declared.bound.Known.{Known}
use Rattle.ec_search_queues.specs.Lowest.{IsKnown, HasSeen, known, nothing}

stored_at_most : (ws : List ℕ) (x : ℕ) → slice_index (slice_set ws 0 x) 0 ≤ x
stored_at_most [] x = zero-le
stored_at_most (y ∷ ys) x = le_refl x

stored_at_least : (ws : List ℕ) (x k : ℕ) → k ≤ slice_index ws 0 → k ≤ x → k ≤ slice_index (slice_set ws 0 x) 0
stored_at_least [] x k was is = was
stored_at_least (y ∷ ys) x k was is = is

set_there : (l : List Known) (i : ℕ) (a b : Known) → get_elem? l i ≡ some b → get_elem? (set l i a) i ≡ some a
set_there [] i a b e = absurd (some-ne-none b (sym e))
set_there (x ∷ xs) zero a b e = refl
set_there (x ∷ xs) (suc i) a b e = set_there xs i a b e

-- what is at most all numbers that were lowered to is so still where one of them falls
below_all : (l : List Known) (i k : ℕ) (new old : Known) → get_elem? l i ≡ some old → new.lowered ≤ old.lowered
    → ((j : ℕ) (u : Known) → get_elem? (set l i new) j ≡ some u → k ≤ u.lowered) → (j : ℕ) (u : Known) → get_elem? l j ≡ some u → k ≤ u.lowered
below_all [] i k new old at less all j u e = absurd (some-ne-none u (sym e))
below_all (x ∷ xs) zero k new old at less all zero u e =
    subst (λ (z : Known). k ≤ z.lowered) (sym (some-injective _ _ at) ∙ some-injective _ _ e) (le_trans (all zero new refl) less)
below_all (x ∷ xs) zero k new old at less all (suc j) u e = all (suc j) u e
below_all (x ∷ xs) (suc i) k new old at less all zero u e = all zero u e
below_all (x ∷ xs) (suc i) k new old at less all (suc j) u e = below_all xs i k new old at less (λ j' u' e'. all (suc j') u' e') j u e

pub begins : IsKnown (opening (nothing ∷ []) [] (known nothing nothing))
begins = (at_first, λ k all. all zero (known nothing nothing) refl)
  where
    at_first : (id : ℕ) (v : Known) → get_elem? (known nothing nothing ∷ []) id ≡ some v → nothing ≤ v.least
    at_first zero v e = subst (λ (z : Known). nothing ≤ z.least) (some-injective _ _ e) (le_refl nothing)
    at_first (suc id) v e = absurd (some-ne-none v (sym e))

pub falls : (slots id low : ℕ) (me : Me (Unit {0}) Known) (f : ℕ → ℕ) → ((n : ℕ) → f n ≤ n) → low ≤ me.0.lowered → ((n k : ℕ) → k ≤ n → k ≤ low → k ≤ f n)
    → Allows IsKnown slots id me 0 f (λ n w. HasSeen me n w (known (f n) low))
falls slots id low me f down lower up s h _ at fits =
    let n = slice_index s.words 0 in
    let m = f n in
    let new = known m low in (
      new,
      keeps,
      tt,
      (
        (λ j u e. ⊎_elim (λ (t : (j ≡ id) × (new ≡ u)). subst (λ (z : Known). slice_index (slice_set s.words 0 m) 0 ≤ z.least) t.1 (stored_at_most s.words m))
            (λ (t : (j ≢ id) × (get_elem? s.views j ≡ some u)). le_trans (stored_at_most s.words m) (le_trans (down n) (h.0 j u t.1)))
            (at_set s.views id j new u e)),
        (λ k all.
            let was = h.1 k (below_all s.views id k new me.0 at lower all) in
            stored_at_least s.words m k was (up n k was (all id new (set_there s.views id new me.0 at)))),
      ),
      (h.0 id me.0 at, refl),
    )

-- the word is looked at
pub sees : (slots id : ℕ) (me : Me (Unit {0}) Known) → Allows IsKnown slots id me 0 (λ n. n) (λ n w. HasSeen me n w (known n me.0.lowered))
sees slots id me = falls slots id me.0.lowered me (λ n. n) (λ n. le_refl n) (le_refl me.0.lowered) (λ n k was low. was)

-- the word is lowered
pub lowers : (slots id value : ℕ) (me : Me (Unit {0}) Known) → Allows IsKnown slots id me 0 (λ n. min n value) (λ n w. HasSeen me n w (known (min n value) (min me.0.lowered value)))
lowers slots id value me = falls slots id (min me.0.lowered value) me (λ (n : ℕ). min n value) (λ n. omega arith) (omega arith) (λ n k was low. omega (arith, was, low))

pub splits : (id : ℕ) (v : Known) → Splits IsKnown id v v v
splits id v s h at =
    let same = set_again s.views id v at in (
      (λ j u e. ⊎_elim (λ was. h.0 j u (subst (λ l. get_elem? l j ≡ some u) same was))
          (λ (is : v ≡ u). subst (λ (z : Known). slice_index s.words 0 ≤ z.least) is (h.0 id v at)) (at_snoc (set s.views id v) v u j e)),
      (λ k all. h.1 k (λ j u e. all j u (at_longer (set s.views id v) (v ∷ []) j u (subst (λ l. get_elem? l j ≡ some u) (sym same) e)))),
    )
