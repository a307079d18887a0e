-- The unit that got its place last: where it is equal to a load, its place is the greatest of the equal units' places.
-- A child has no equal unit above it (`last-first`), so what is below another equal unit's place is below that of the child.
use Rattle.std.proofs.Common.{◌≡◌, ℕ, zero, suc, ◌<◌, ◌&&◌, ◌||◌, not, Bool, true, false, cond, List, [], ◌∷◌, filter, length, set, get_or, slice_get, Option, Some, None, sym, ap, ◌∙◌, subst, inl, inr, arith}
use Rattle.std.proofs.lemmas.Bool.{cases_Bool, or_cases, or_left, or_parts, and_parts, true≢false, not-true}
use Rattle.std.proofs.lemmas.List.{get_or-set_same, length-set}
use Rattle.std.proofs.lemmas.Option.{slice_get_within}
use Rattle.ec_units.specs.declared.slave.Place.{Place}
use Rattle.ec_units.specs.declared.unit.Load.{Load}
use Rattle.ec_loads.specs.Line.{strong, line_by}
use Rattle.ec_loads.specs.Search.{Prefix, nobody, used, places_for, children}
use Rattle.ec_loads.specs.Strong.{strong_phases, same_load, is_below, has_equal_above, strong_children}
use Rattle.ec_symmetry.specs.Latest.{IsLatest, IsLastChild}
use Rattle.ec_symmetry.specs.Reached.{In}
use Rattle.ec_symmetry.proofs.InLemmas.{In-cases}
use Rattle.ec_symmetry.proofs.LatestLemmas.{same-bool, below-least}
use Rattle.ec_symmetry.proofs.StrongLemmas.{one-load}
use Rattle.ec_symmetry.proofs.UsedLemmas.{or_swap}

-- what passes a filter passes its test
filter-test : {A : Type 0} (test : A → Bool) (x : A) (xs : List A) → In x (filter test xs) → test x ≡ true
filter-test test x [] m = elim m [ ]
filter-test test x (y ∷ xs) m =
    elim (cases_Bool (test y)) [
      | inl passes ↦
          let there_is : In x (y ∷ filter test xs) = subst (λ b. In x (cond b (y ∷ filter test xs) (filter test xs))) passes m in
          elim (In-cases there_is) [
            | inl is ↦ ap test is ∙ passes
            | inr later ↦ filter-test test x xs later
          ]
      | inr fails ↦ filter-test test x xs (subst (λ b. In x (cond b (y ∷ filter test xs) (filter test xs))) fails m)
    ]

-- what is below an equal unit's place is below a place that none of these is above
below-last : (l : Load) (p x : Place) (ls : List Load) (ps : Prefix) → has_equal_above l p ls ps ≡ false → has_equal_above l x ls ps ≡ true → is_below x p ≡ true
below-last l p x [] ps none some = absurd (true≢false (sym some))
below-last l p x (m ∷ ls) [] none some = absurd (true≢false (sym some))
below-last l p x (m ∷ ls) (None ∷ ps) none some = below-last l p x ls ps none some
below-last l p x (m ∷ ls) (Some q ∷ ps) none some =
    let parts = or_parts (same_load m l && is_below p q) (has_equal_above l p ls ps) none in
    elim (or_cases (same_load m l && is_below x q) (has_equal_above l x ls ps) some) [
      | inl first ↦
          let both = and_parts (same_load m l) (is_below x q) first in
          let low : is_below p q ≡ false = sym (ap (λ b. b && is_below p q) both.0) ∙ parts.0 in
          below-least x p q low both.1
      | inr later ↦ below-last l p x ls ps parts.1 later
    ]

-- one more unit, which is equal
above-set : (l : Load) (p x : Place) (ls : List Load) (ps : Prefix) (u : ℕ) → u < length ls → slice_get ps u ≡ Some None → same_load (get_or ls u nobody) l ≡ true →
    has_equal_above l x ls (set ps u (Some p)) ≡ (is_below x p || has_equal_above l x ls ps)
above-set l p x [] ps u within free same = absurd (omega (arith, within))
above-set l p x (m ∷ ls) [] u within free same = cc
above-set l p x (m ∷ ls) (None ∷ ps) zero within free same = ap (λ b. (b && is_below x p) || has_equal_above l x ls ps) same
above-set l p x (m ∷ ls) (Some q ∷ ps) zero within free same = cc
above-set l p x (m ∷ ls) (None ∷ ps) (suc u) within free same = above-set l p x ls ps u (omega (arith, within)) free same
above-set l p x (m ∷ ls) (Some q ∷ ps) (suc u) within free same =
    let first = same_load m l && is_below x q in
    ap (λ b. first || b) (above-set l p x ls ps u (omega (arith, within)) free same) ∙ or_swap first (is_below x p) (has_equal_above l x ls ps)

-- so a child's place is the latest
pub last-latest : (loads : List Load) (n : ℕ) (before : Prefix) (u : ℕ) (p : Place) (l : Load) → u < length loads → slice_get before u ≡ Some None → In p (children (line_by strong loads n) before u) → same_load (get_or loads u nobody) l ≡ true →
    IsLatest l loads (set before u (Some p)) p
unfolding children strong_children
last-latest loads n before u p l within free child same = λ x.
    let own = get_or loads u nobody in
    let passed = filter-test (λ q. not (has_equal_above own q loads before)) p (places_for (strong_phases loads before own.period) n (used before)) child in
    let none : has_equal_above l p loads before ≡ false = sym (ap (λ m. has_equal_above m p loads before) (one-load own l same)) ∙ not-true (has_equal_above own p loads before) passed in
    above-set l p x loads before u within free same
    ∙ same-bool (is_below x p || has_equal_above l x loads before) (is_below x p)
    (λ e. elim (or_cases (is_below x p) (has_equal_above l x loads before) e) [
      | inl is ↦ is
      | inr above ↦ below-last l p x loads before none above
    ])
    (or_left (is_below x p) (has_equal_above l x loads before))

-- the unit that got its place last, where it is equal
pub last-named : (loads : List Load) (n : ℕ) (ps : Prefix) (last : Option ℕ) (u : ℕ) (p : Place) (l : Load) → length ps ≡ length loads → last ≡ Some u → IsLastChild (line_by strong loads n) ps last → get_or ps u None ≡ Some p → same_load (get_or loads u nobody) l ≡ true →
    IsLatest l loads ps p
last-named loads n ps last u p l each is child at same =
    let r = subst (IsLastChild (line_by strong loads n) ps) is child in
    let before = r.0 in
    let room = slice_get_within before u None r.2 in
    let long : length ps ≡ length before = ap length r.4 ∙ length-set before u (Some r.1) in
    let both : Some r.1 ≡ Some p = sym (get_or-set_same before u (Some r.1) None room) ∙ ap (λ qs. get_or qs u None) (sym r.4) ∙ at in
    let one : r.1 ≡ p = cc in
    subst (λ qs. IsLatest l loads qs p) (sym r.4)
    (subst (λ q. IsLatest l loads (set before u (Some r.1)) q) one (last-latest loads n before u r.1 l (omega (arith, each, long, room)) r.2 r.3 same))
