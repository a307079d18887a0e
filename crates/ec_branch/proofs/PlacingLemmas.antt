-- The places of a prefix, given to units that had others.
-- Where the first units of an order stand as a prefix has them and the others have no place, the rest of the prefix makes it whole
-- (`standing_whole`), since an order names each unit.
use Rattle.std.proofs.Common.{◌≡◌, ℕ, zero, suc, ◌+◌, ◌<◌, ◌≤◌, inl, inr, List, [], ◌∷◌, length, set, drop, get_or, slice_get, Option, Some, None, refl, ap, sym, subst, ◌∙◌, arith, set-set}
use Rattle.std.proofs.lemmas.Bool.{cases_eq}
use Rattle.std.proofs.lemmas.List.{length-set}
use Rattle.ec_units.specs.declared.slave.Place.{Place}
use Rattle.ec_units.specs.declared.unit.Load.{Load}
use Rattle.ec_loads.specs.Held.{no_places}
use Rattle.ec_loads.specs.Search.{Prefix, nowhere}
use Rattle.ec_symmetry.specs.Orders.{IsOrder, with_places, prefix_of}
use Rattle.ec_branch.proofs.OneGreedyLemmas.{once_each, index_of}
use Rattle.ec_branch.proofs.ReadyLemmas.{with_more}
use Rattle.ec_branch.proofs.TurnLemmas.{apart_at}

pub own_place : (ps : Prefix) (u : ℕ) (o : Option Place) → u < length ps → slice_get (set ps u o) u ≡ Some o
own_place [] u o h = absurd (omega (arith, h))
own_place (p ∷ ps) zero o h = refl
own_place (p ∷ ps) (suc u) o h = own_place ps u o (omega (arith, h))

pub other_place : (ps : Prefix) (u w : ℕ) (o : Option Place) → (u ≡ w → ⊥) → slice_get (set ps u o) w ≡ slice_get ps w
other_place [] u w o h = refl
other_place (p ∷ ps) zero zero o h = absurd (h refl)
other_place (p ∷ ps) zero (suc w) o h = refl
other_place (p ∷ ps) (suc u) zero o h = refl
other_place (p ∷ ps) (suc u) (suc w) o h = other_place ps u w o (λ e. h (ap suc e))

-- what has no place has none after another place was taken away
pub none_stays : (ps : Prefix) (u w : ℕ) → slice_get ps w ≡ Some None → slice_get (set ps u None) w ≡ Some None
none_stays [] u w h = h
none_stays (p ∷ ps) zero zero h = refl
none_stays (p ∷ ps) zero (suc w) h = h
none_stays (p ∷ ps) (suc u) zero h = h
none_stays (p ∷ ps) (suc u) (suc w) h = none_stays ps u w h

set_as_is : (ps : Prefix) (u : ℕ) (o : Option Place) → slice_get ps u ≡ Some o → set ps u o ≡ ps
set_as_is [] u o h = refl
set_as_is (p ∷ ps) zero o h = let e : p ≡ o = cc in λ j. sym e j ∷ ps
set_as_is (p ∷ ps) (suc u) o h = ap (λ w. p ∷ w) (set_as_is ps u o h)

all_free : (loads : List Load) (ps : Prefix) → length ps ≡ length loads → ((u : ℕ) → u < length ps → slice_get ps u ≡ Some None) → ps ≡ no_places loads
all_free [] [] e free = refl
all_free [] (p ∷ ps) e free = absurd (omega (arith, e))
all_free (l ∷ ls) [] e free = absurd (omega (arith, e))
all_free (l ∷ ls) (p ∷ ps) e free =
    let first : Some p ≡ Some None = free 0 (omega arith) in
    let none : p ≡ None = cc in
    let rest = all_free ls ps (omega (arith, e)) (λ u h. free (suc u) (omega (arith, h))) in
    λ j. none j ∷ rest j

-- the first k units of the order have these places
abbrev pub DoStand : Prefix → List ℕ → List Place → ℕ → Type 0
DoStand ps order prefix k = (j : ℕ) (e : Place) → j < k → slice_get ps (get_or order j 0) ≡ Some (Some (get_or prefix j e))

-- and the others have none
abbrev pub AreFreeFrom : Prefix → List ℕ → ℕ → Type 0
AreFreeFrom ps order k = (j : ℕ) → k ≤ j → j < length order → slice_get ps (get_or order j 0) ≡ Some None

none_left : (loads : List Load) (ps : Prefix) (order : List ℕ) → IsOrder (length loads) order → length ps ≡ length loads → AreFreeFrom ps order 0 → ps ≡ no_places loads
none_left loads ps order is each free =
    all_free loads ps each
    (λ u h.
    let (j, within, at) = index_of u order (let one = once_each (length loads) u order is (omega (arith, h, each)) in omega (arith, one)) in
    subst (λ w. slice_get ps w ≡ Some None) at (free j (omega arith) within))

pub standing_whole :
    (loads : List Load) (ps : Prefix) (order : List ℕ) (prefix : List Place) (k : ℕ) → IsOrder (length loads) order → length ps ≡ length loads → k ≤ length prefix → length prefix ≤ length order →
    DoStand ps order prefix k → AreFreeFrom ps order k → with_places ps (drop k order) (drop k prefix) ≡ prefix_of loads order prefix
standing_whole loads ps order prefix zero is each low long stand free = ap (λ w. with_places w order prefix) (none_left loads ps order is each free)
standing_whole loads ps order prefix (suc k) is each low long stand free =
    let u = get_or order k 0 in
    let bare = set ps u None in
    let here : slice_get ps u ≡ Some (Some (get_or prefix k nowhere)) = stand k nowhere (omega arith) in
    let whole = standing_whole loads bare order prefix k is (length-set ps u None ∙ each) (omega (arith, low)) long
    (λ j d less. other_place ps u (get_or order j 0) None (λ same. apart_at order j k is.once less (omega (arith, low, long)) (sym same)) ∙ stand j d (omega (arith, less)))
    (λ j from within.
    elim (cases_eq j k) [
      | inl same ↦ subst (λ w. slice_get bare (get_or order w 0) ≡ Some None) (sym same) (own_place ps u None (is_below ps u _ here))
      | inr apart ↦ none_stays ps u (get_or order j 0) (free j (omega (arith, from, apart)) within)
    ]) in
    let step = with_more bare order prefix k u 0 nowhere (omega (arith, low, long)) (omega (arith, low)) refl in
    let back : set bare u (Some (get_or prefix k nowhere)) ≡ ps = set-set ps u None (Some (get_or prefix k nowhere)) ∙ set_as_is ps u (Some (get_or prefix k nowhere)) here in
    let next : suc k ≡ k + 1 = omega arith in
    (λ j. with_places (sym back j) (drop (next j) order) (drop (next j) prefix)) ∙ sym step ∙ whole
  where
    is_below : (qs : Prefix) (w : ℕ) (o : Option Place) → slice_get qs w ≡ Some o → w < length qs
    is_below [] w o h = absurd (cc)
    is_below (q ∷ qs) zero o h = omega arith
    is_below (q ∷ qs) (suc w) o h = let rest = is_below qs w o h in omega (arith, rest)
