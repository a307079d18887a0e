-- One item more, wherever it stands in the list: what it does to groups, payloads and counts.
use Rattle.std.proofs.Common.{◌≡◌, ℕ, zero, suc, ◌+◌, ◌<◌, ◌≤◌, ◌==◌, ◌&&◌, ◌||◌, Bool, true, false, cond, List, [], ◌∷◌, length, set, get_or, slice_get, Option, Some, None, is_none, inl, inr, refl, sym, subst, ap, ◌∙◌, arith, not-suc-le-zero, le_of_suc-le-suc}
use Rattle.std.specs.List.{list_any, count_by}
use Rattle.std.proofs.lemmas.List.Sums.{sum_by-cons}
use Rattle.std.proofs.lemmas.List.{length-set, get_or-set_same, set-get_or}
use Rattle.std.proofs.lemmas.Option.{slice_get-get_or}
use Rattle.std.proofs.lemmas.Bool.{eqb-true, cases_Bool, and_parts, true≢false, false≢true}
use Rattle.ec_units.specs.declared.slave.Place.{Place}
use Rattle.ec_units.specs.declared.unit.Load.{Load}
use Rattle.ec_loads.specs.declared.item.Item.{Item}
use Rattle.ec_loads.specs.Cost.{items, item, is_sent, group, same_group, payload, has_group, added}
use Rattle.ec_loads.specs.Held.{no_places}
use Rattle.ec_loads.specs.Table.{IsOneMore, here, later}
use Rattle.ec_loads.proofs.PayloadLemmas.{payload-cons}

-- a load that had no place gets one
pub more-items : (ls : List Load) (ps : List (Option Place)) (u : ℕ) (d : Load) (p : Place) → u < length ls → u < length ps → get_or ps u None ≡ None →
    IsOneMore (item (get_or ls u d) p) (items ls ps) (items ls (set ps u (Some p)))
more-items [] ps u d p h k e = absurd (not-suc-le-zero h)
more-items (l ∷ ls) [] u d p h k e = absurd (not-suc-le-zero k)
more-items (l ∷ ls) (None ∷ ps) zero d p h k e = here
more-items (l ∷ ls) (Some q ∷ ps) zero d p h k e = absurd (false≢true (ap (λ o. is_none o) e))
more-items (l ∷ ls) (None ∷ ps) (suc u) d p h k e = more-items ls ps u d p (le_of_suc-le-suc h) (le_of_suc-le-suc k) e
more-items (l ∷ ls) (Some q ∷ ps) (suc u) d p h k e = later (more-items ls ps u d p (le_of_suc-le-suc h) (le_of_suc-le-suc k) e)

-- a load that had a place loses it
pub less-items : (ls : List Load) (ps : List (Option Place)) (u : ℕ) (d : Load) (o : Option Place) (p : Place) → u < length ls → u < length ps → get_or ps u o ≡ Some p →
    IsOneMore (item (get_or ls u d) p) (items ls (set ps u None)) (items ls ps)
less-items [] ps u d o p h k e = absurd (not-suc-le-zero h)
less-items (l ∷ ls) [] u d o p h k e = absurd (not-suc-le-zero k)
less-items (l ∷ ls) (None ∷ ps) zero d o p h k e = absurd (true≢false (ap (λ w. is_none w) e))
less-items (l ∷ ls) (Some q ∷ ps) zero d o p h k e = subst (λ w. IsOneMore (item l p) (items ls ps) (items (l ∷ ls) (w ∷ ps))) (sym e) here
less-items (l ∷ ls) (None ∷ ps) (suc u) d o p h k e = less-items ls ps u d o p (le_of_suc-le-suc h) (le_of_suc-le-suc k) e
less-items (l ∷ ls) (Some q ∷ ps) (suc u) d o p h k e = later (less-items ls ps u d o p (le_of_suc-le-suc h) (le_of_suc-le-suc k) e)

-- the first of three can be asked second
pub or_swap : (a b c : Bool) → (a || (b || c)) ≡ (b || (a || c))
or_swap true true c = refl
or_swap true false c = refl
or_swap false b c = refl

pub has_group-more : (g : ℕ × ℕ) (t s : ℕ) (x : Item) {xs ys : List Item} → IsOneMore x xs ys → has_group g t s ys ≡ ((is_sent t s x && same_group g (group x)) || has_group g t s xs)
has_group-more g t s x here = refl
has_group-more g t s x (later {y = y} {xs = xs} h) =
    ap (λ r. (is_sent t s y && same_group g (group y)) || r) (has_group-more g t s x h)
    ∙ or_swap (is_sent t s y && same_group g (group y)) (is_sent t s x && same_group g (group x)) (has_group g t s xs)

pub same_group-is : (a b : ℕ × ℕ) → same_group a b ≡ true → a ≡ b
same_group-is a b h =
    let both = and_parts (a.0 == b.0) (a.1 == b.1) h in
    λ i. (eqb-true a.0 b.0 both.0 i, eqb-true a.1 b.1 both.1 i)

-- two items that are put in one after the other add the same in either order
exchange : (a b m hx hy : Bool) (p q : ℕ) → (m ≡ true → hx ≡ hy) →
    cond b (cond ((a && m) || hy) 0 12 + q) 0 + cond a (cond hx 0 12 + p) 0 ≡ cond a (cond ((b && m) || hx) 0 12 + p) 0 + cond b (cond hy 0 12 + q) 0
exchange false false m hx hy p q e = refl
exchange false true m hx hy p q e = omega arith
exchange true false m hx hy p q e = omega arith
exchange true true false hx hy p q e = omega arith
exchange true true true true true p q e = omega arith
exchange true true true false false p q e = omega arith
exchange true true true true false p q e = absurd (true≢false (e refl))
exchange true true true false true p q e = absurd (false≢true (e refl))

same_group-swap : (a b : ℕ × ℕ) → same_group a b ≡ same_group b a
same_group-swap a b =
    elim (cases_Bool (same_group a b)) [
      | inl eq ↦ let is : a ≡ b = same_group-is a b eq in ap (λ g. same_group g b) is ∙ ap (λ g. same_group b g) (sym is)
      | inr ne ↦ elim (cases_Bool (same_group b a)) [
        | inl eq ↦ let is : b ≡ a = same_group-is b a eq in ap (λ g. same_group g b) (sym is) ∙ ap (λ g. same_group b g) is
        | inr other ↦ ne ∙ sym other
      ]
    ]

-- a payload grows by what the item adds to the others
pub payload-more : (t s : ℕ) (x : Item) {xs ys : List Item} → IsOneMore x xs ys → payload ys t s ≡ added t s x xs + payload xs t s
payload-more t s x (here {xs = xs}) = payload-cons x xs t s
payload-more t s x (later {y = y} {xs = xs} {ys = ys} h) =
    let first = payload-cons y ys t s in
    let rest = payload-more t s x h in
    let old = payload-cons y xs t s in
    let there = has_group-more (group y) t s x h in
    let swap = exchange (is_sent t s x) (is_sent t s y) (same_group (group y) (group x)) (has_group (group x) t s xs) (has_group (group y) t s xs) x.bytes y.bytes
    (λ same. let is : group y ≡ group x = same_group-is (group y) (group x) same in ap (λ g. has_group g t s xs) (sym is)) in
    let now : added t s y ys ≡ cond (is_sent t s y) (cond ((is_sent t s x && same_group (group y) (group x)) || has_group (group y) t s xs) 0 12 + y.bytes) 0 =
    ap (λ g. cond (is_sent t s y) (cond g 0 12 + y.bytes) 0) there in
    let then_x : added t s x (y ∷ xs) ≡ cond (is_sent t s x) (cond ((is_sent t s y && same_group (group y) (group x)) || has_group (group x) t s xs) 0 12 + x.bytes) 0 =
    ap (λ g. cond (is_sent t s x) (cond ((is_sent t s y && g) || has_group (group x) t s xs) 0 12 + x.bytes) 0) (same_group-swap (group x) (group y)) in
    omega (arith, first, rest, old, swap, now, then_x)

-- an item that isn't sent adds nothing
pub added-idle : (t s : ℕ) (x : Item) (xs : List Item) → is_sent t s x ≡ false → added t s x xs ≡ 0
added-idle t s x xs e = ap (λ b. cond b (cond (has_group (group x) t s xs) 0 12 + x.bytes) 0) e

-- one that is sent adds its bytes, and a header where no other is in its group
pub added-sent : (t s : ℕ) (x : Item) (xs : List Item) → is_sent t s x ≡ true → added t s x xs ≡ cond (has_group (group x) t s xs) 0 12 + x.bytes
added-sent t s x xs e = ap (λ b. cond b (cond (has_group (group x) t s xs) 0 12 + x.bytes) 0) e

pub busy-more : (t s : ℕ) (x : Item) {xs ys : List Item} → IsOneMore x xs ys → list_any (is_sent t s) ys ≡ (is_sent t s x || list_any (is_sent t s) xs)
busy-more t s x here = refl
busy-more t s x (later {y = y} {xs = xs} h) =
    ap (λ r. is_sent t s y || r) (busy-more t s x h) ∙ or_swap (is_sent t s y) (is_sent t s x) (list_any (is_sent t s) xs)

pub count-more : (f : Item → Bool) (x : Item) {xs ys : List Item} → IsOneMore x xs ys → count_by f ys ≡ cond (f x) 1 0 + count_by f xs
count-more f x (here {xs = xs}) = sum_by-cons (λ y. cond (f y) 1 0) x xs
count-more f x (later {y = y} {xs = xs} {ys = ys} h) =
    let a = sum_by-cons (λ z. cond (f z) 1 0) y ys in
    let b = sum_by-cons (λ z. cond (f z) 1 0) y xs in
    let c = count-more f x h in
    omega (arith, a, b, c)

pub length-more : (x : Item) {xs ys : List Item} → IsOneMore x xs ys → length ys ≡ suc (length xs)
length-more x here = refl
length-more x (later h) = ap suc (length-more x h)

pub items-length : (ls : List Load) (ps : List (Option Place)) → length (items ls ps) ≤ length ls
items-length [] ps = omega arith
items-length (l ∷ ls) [] = omega arith
items-length (l ∷ ls) (None ∷ ps) = let e = items-length ls ps in omega (arith, e)
items-length (l ∷ ls) (Some p ∷ ps) = let e = items-length ls ps in omega (arith, e)

pub items-none : (ls : List Load) → items ls (no_places ls) ≡ []
items-none [] = refl
items-none (l ∷ ls) = items-none ls

pub set_twice : {A : Type 0} (xs : List A) (i : ℕ) (a b : A) → set (set xs i a) i b ≡ set xs i b
set_twice [] i a b = refl
set_twice (x ∷ xs) zero a b = refl
set_twice (x ∷ xs) (suc i) a b = ap (λ w. x ∷ w) (set_twice xs i a b)

pub set_none : (ps : List (Option Place)) (u : ℕ) (p : Place) → set (set ps u None) u (Some p) ≡ set ps u (Some p)
set_none ps u p = set_twice ps u None (Some p)

pub set_free : {X : Type 0} (xs : List X) (i : ℕ) (x : X) → i < length xs → slice_get (set xs i x) i ≡ Some x
set_free xs i x h = slice_get-get_or (set xs i x) i x (rw (length-set xs i x) h) ∙ ap (λ y. Some y) (get_or-set_same xs i x x h)

-- a load without a place that loses it
pub none_kept : (ps : List (Option Place)) (u : ℕ) (o : Option Place) → o ≡ get_or ps u o → ((p : Place) → o ≡ Some p → ⊥) → ps ≡ set ps u None
none_kept ps u None is some = sym (ap (λ o. set ps u o) is ∙ set-get_or ps u None)
none_kept ps u (Some p) is some = absurd (some p refl)
