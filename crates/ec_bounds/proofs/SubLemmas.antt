-- A plan that extends another costs at least as much in each tick.
-- `Sub` (fewer items) goes from sets of groups to costs: `payload-Sub` by `different-subset`, and `tick_cost-Sub`.
use Rattle.std.proofs.Common.{◌≡◌, ℕ, zero, suc, ◌<◌, ◌≤◌, ◌||◌, true, false, cond, List, [], ◌∷◌, map, sum_by, All, Option, Some, None, refl, subst, ap, arith, inl, inr}
use Rattle.std.specs.List.{list_any}
use Rattle.std.proofs.lemmas.Bool.{or_cases, or_right, cases_Bool, cond_both}
use Rattle.std.proofs.lemmas.List.Sums.{sum_by-cons}
use Rattle.std.proofs.lemmas.List.Elements.{All-head, All-tail, All-cons}
use Rattle.ec_units.specs.declared.unit.Load.{Load}
use Rattle.ec_loads.specs.declared.item.Item.{Item}
use Rattle.ec_loads.specs.Cost.{items, is_sent, group, same_group, carried, different, payload, slot_cost, sum_below, tick_cost}
use Rattle.ec_loads.specs.Search.{Prefix, Extends, done, free, same, IsAtMost}
use Rattle.ec_bounds.proofs.SetLemmas.{Group, mem, different-subset}

-- xs is ys without some of its items
pub data Sub : List Item → List Item → Type 0 where
  none : Sub [] []
  skip : {xs ys : List Item} {y : Item} → Sub xs ys → Sub xs (y ∷ ys)
  keep : {xs ys : List Item} {x : Item} → Sub xs ys → Sub (x ∷ xs) (x ∷ ys)

pub Sub-carried : {xs ys : List Item} (t s : ℕ) → Sub xs ys → Sub (carried xs t s) (carried ys t s)
Sub-carried t s none = none
Sub-carried {xs} t s (skip {ys} {y} r) =
    cond_both (is_sent t s y) (y ∷ carried ys t s) (carried ys t s) (λ w. Sub (carried xs t s) w) (λ _. skip (Sub-carried t s r)) (λ _. Sub-carried t s r)
Sub-carried t s (keep {xs} {ys} {x} r) =
    elim (is_sent t s x) as (λ b. Sub (cond b (x ∷ carried xs t s) (carried xs t s)) (cond b (x ∷ carried ys t s) (carried ys t s))) [
      | true ↦ keep (Sub-carried t s r)
      | false ↦ Sub-carried t s r
    ]

pub Sub-groups : {xs ys : List Item} (g : Group) → Sub xs ys → mem g (map group xs) ≡ true → mem g (map group ys) ≡ true
Sub-groups g none h = h
Sub-groups g (skip {xs} {ys} {y} r) h = or_right (same_group g (group y)) (mem g (map group ys)) (Sub-groups g r h)
Sub-groups g (keep {xs} {ys} {x} r) h =
    elim (or_cases (same_group g (group x)) (mem g (map group xs)) h) [
      | inl here ↦ ap (λ b. b || mem g (map group ys)) here
      | inr there ↦ or_right (same_group g (group x)) (mem g (map group ys)) (Sub-groups g r there)
    ]

pub Sub-bytes : {xs ys : List Item} → Sub xs ys → sum_by (λ x. x.bytes) xs ≤ sum_by (λ x. x.bytes) ys
Sub-bytes none = omega arith
Sub-bytes (skip {xs} {ys} {y} r) = omega (arith, sum_by-cons (λ x. x.bytes) y ys, Sub-bytes r)
Sub-bytes (keep {xs} {ys} {x} r) = omega (arith, sum_by-cons (λ x. x.bytes) x xs, sum_by-cons (λ x. x.bytes) x ys, Sub-bytes r)

pub Sub-busy : {xs ys : List Item} (t s : ℕ) → Sub xs ys → list_any (is_sent t s) xs ≡ true → list_any (is_sent t s) ys ≡ true
Sub-busy t s none h = h
Sub-busy t s (skip {xs} {ys} {y} r) h = or_right (is_sent t s y) (list_any (is_sent t s) ys) (Sub-busy t s r h)
Sub-busy t s (keep {xs} {ys} {x} r) h =
    elim (or_cases (is_sent t s x) (list_any (is_sent t s) xs) h) [
      | inl here ↦ ap (λ b. b || list_any (is_sent t s) ys) here
      | inr there ↦ or_right (is_sent t s x) (list_any (is_sent t s) ys) (Sub-busy t s r there)
    ]

pub payload-Sub : (xs ys : List Item) (t s : ℕ) → Sub xs ys → payload xs t s ≤ payload ys t s
unfolding payload
payload-Sub xs ys t s r =
    let c = Sub-carried t s r in
    let groups : different (map group (carried xs t s)) ≤ different (map group (carried ys t s)) = different-subset _ _ (λ g h. Sub-groups g c h) in
    let bytes : sum_by (λ x. x.bytes) (carried xs t s) ≤ sum_by (λ x. x.bytes) (carried ys t s) = Sub-bytes c in
    omega arith

pub slot_cost-Sub : (xs ys : List Item) (t s : ℕ) → Sub xs ys → slot_cost xs t s ≤ slot_cost ys t s
slot_cost-Sub xs ys t s r =
    let q = payload-Sub xs ys t s r in
    elim (cases_Bool (list_any (is_sent t s) xs)) [
      | inl busy ↦ rw (busy, Sub-busy t s r busy) (omega arith)
      | inr idle ↦ rw idle (omega arith)
    ]

pub sum_below-le : (f g : ℕ → ℕ) (n : ℕ) → ((k : ℕ) → k < n → f k ≤ g k) → sum_below f n ≤ sum_below g n
sum_below-le f g zero h = omega arith
sum_below-le f g (suc n) h =
    let rest = sum_below-le f g n (λ k l. h k (omega arith)) in
    let last = h n (omega arith) in
    omega arith

pub tick_cost-Sub : (xs ys : List Item) (n t : ℕ) → Sub xs ys → tick_cost xs n t ≤ tick_cost ys n t
unfolding tick_cost
tick_cost-Sub xs ys n t r = sum_below-le (slot_cost xs t) (slot_cost ys t) n (λ s _. slot_cost-Sub xs ys t s r)

-- a longer prefix has more items
pub Sub-items : {ps qs : Prefix} (ls : List Load) → Extends ps qs → Sub (items ls ps) (items ls qs)
Sub-items [] e = none
Sub-items (l ∷ ls) done = none
Sub-items (l ∷ ls) (free {q = None} e) = Sub-items ls e
Sub-items (l ∷ ls) (free {q = Some q} e) = skip (Sub-items ls e)
Sub-items (l ∷ ls) (same {p = None} e) = Sub-items ls e
Sub-items (l ∷ ls) (same {p = Some p} e) = keep (Sub-items ls e)

-- what holds of all items holds of fewer
pub All-Sub : {xs ys : List Item} (P : Item → Type 0) → Sub xs ys → All P ys → All P xs
All-Sub P none h = h
All-Sub P (skip {xs} {ys} {y} r) h = All-Sub P r (All-tail P y ys h)
All-Sub P (keep {xs} {ys} {x} r) h = All-cons P x xs (All-head P x ys h) (All-Sub P r (All-tail P x ys h))

-- a value that is at most a number is one
pub below_some : (v w : Option ℕ) (b : ℕ) → v ≡ Some b → IsAtMost w v → (a : ℕ) × (w ≡ Some a) × (a ≤ b)
below_some v w b is low = at w (subst (IsAtMost w) is low)
  where
    at : (w : Option ℕ) → IsAtMost w (Some b) → (a : ℕ) × (w ≡ Some a) × (a ≤ b)
    at (Some a) h = (a, refl, h)
    at None h = absurd h
