-- So many new groups, each of which costs 12 bytes in its ticks, bound every plan that extends the prefix.
-- A period whose bytes don't fit into fewer of its closed classes begins at least so many (`needed-begun`). In each tick the new groups of all
-- periods come to 12 bytes each (`heads-many`), since they differ; over a hyperperiod each class counts once in each of its periods (`sum-periods`).
use Rattle.std.proofs.Common.{◌≡◌, ℕ, zero, suc, ◌+◌, ◌-◌, ◌*◌, ◌/◌, ◌%◌, ◌<◌, ◌≤◌, ◌==◌, ◌&&◌, ◌||◌, not, Bool, true, false, cond, List, [], ◌∷◌, map, filter, sum_by, count_by, All, Option, Some, None, refl, sym, ap, ◌∙◌, subst, arith, inl, inr, eqb-true, mul_comm, mul_assoc, mul-zero, mul-suc, suc-mul, mul-le-mul_left, lt_of_mul-lt-mul_right}
use Prim.Native.Nat.{◌∣◌}
use native.Mathlib.Nat.{mul-div_cancel'}
use Rattle.std.specs.List.{AllZip, list_any, range_with_len}
use Rattle.std.proofs.lemmas.Bool.{false≢true, and_parts, and_from, or_cases, or_right, cases_Bool, cond-true, cond-false, cond_both, eq-eqb, false_from_ne_true, not-true, not_from_false}
use Rattle.std.proofs.lemmas.List.Sums.{sum_by-cons}
use Rattle.std.proofs.lemmas.List.Elements.{All-head, All-tail, All-weaker, filter_passes}
use Rattle.std.proofs.lemmas.Nat.{mod-mul-add}
use Rattle.ec_hyper.specs.Lcm.{lcm_of}
use Rattle.ec_hyper.proofs.LcmLemmas.{lcm_of-is}
use Rattle.ec_units.specs.declared.slave.Place.{Place}
use Rattle.ec_units.specs.declared.unit.Load.{Load}
use Rattle.ec_units.specs.Load.{periods_of}
use Rattle.ec_loads.specs.declared.item.Item.{Item}
use Rattle.ec_loads.specs.declared.pair.Pair.{Pair}
use Rattle.ec_loads.specs.Cost.{items, plan_items, is_sent, same_group, groups, different, sum_below, tick_cost, raw_cost}
use Rattle.ec_loads.specs.Held.{AreLoads}
use Rattle.ec_loads.specs.Legal.{IsLegal}
use Rattle.ec_loads.specs.Rooms.{is_open, room, unplaced, has_period, periods_in, bytes_at, room_beside, IsNeeded, group_bytes, sent_bytes, AreGroups}
use Rattle.ec_loads.specs.Search.{Prefix, Extends, demand, HasTick}
use Rattle.ec_loads.proofs.ItemLemmas.{positive_loads}
use Rattle.ec_bounds.specs.RoomLaws.{items_beyond, class_bytes, GroupsBound}
use Rattle.ec_bounds.proofs.SetLemmas.{Group, mem, same_group-is, different-subset}
use Rattle.ec_bounds.proofs.SubLemmas.{Sub, Sub-items, Sub-carried, Sub-groups, Sub-busy, All-Sub, sum_below-le}
use Rattle.ec_bounds.proofs.AverageLemmas.{AreWhole-legal, sum_below-add, sum_below-agree, sum_below-none, sum_below-split, idle-carried, head, heads, sum_raw, weight-extends, raw_cost-le, above_or_all, sum_below-bound}
use Rattle.ec_bounds.proofs.WeightLemmas.{sum_below-times, sum_below-scaled}
use Rattle.ec_bounds.proofs.RoomLemmas.{sum_below-term, open-slot, slot-open, open-beyond, class-none, All-beyond, room-holds}
use Rattle.ec_bounds.proofs.CountLemmas.{classes-sum, beyond-sum}

-- whether a class is closed for the items xs, and zs have one of it
abbrev begins : List Item → List Item → ℕ → ℕ → ℕ
begins xs zs p f = cond (is_open xs p f) 0 (cond (is_open zs p f) 1 0)

-- how many classes of a period zs begin
abbrev begun : List Item → List Item → ℕ → ℕ
begun xs zs p = sum_below (begins xs zs p) p

-- what one class takes of the room of its period
class-fits : (r x b : ℕ) (old new : Bool) → b ≤ r → (new ≡ false → b ≡ 0) → b ≤ cond old r (r - x) + cond old 0 (cond new 1 0) * x
class-fits r x b true new low none = omega arith
class-fits r x b false true low none = omega arith
class-fits r x b false false low none = let nothing = none refl in omega (arith, nothing)

-- the bytes of a period's units without a place have room beside so many groups
period-fits : (loads : List Load) (n v : ℕ) (ps : Prefix) (plan : List Place) → AreLoads loads → Extends ps (map Some plan) → IsLegal loads n plan →
    ((t : ℕ) → t < lcm_of (periods_of loads) → tick_cost (plan_items loads plan) n t ≤ v - 1) → (p x : ℕ) →
    bytes_at p (unplaced loads ps) ≤ sum_below (room_beside (items loads ps) n (lcm_of (periods_of loads)) v p x) p + begun (items loads ps) (items_beyond loads ps plan) p * x
period-fits loads n v ps plan within e legal low p x =
    let h = lcm_of (periods_of loads) in
    let xs = items loads ps in
    let zs = items_beyond loads ps plan in
    let bytes = beyond-sum (λ b q. cond (q == p) b 0) loads ps plan e in
    let parts = classes-sum (λ z. z.bytes) zs p (All-beyond (λ z. z.phase < z.period) loads ps plan e legal.phases) in
    let each = sum_below-le (class_bytes zs p) (λ f. room_beside xs n h v p x f + begins xs zs p f * x) p
    (λ f _. class-fits (room xs n h v p f) x (class_bytes zs p f) (is_open xs p f) (is_open zs p f) (room-holds loads n v ps plan within e legal low p f) (class-none zs p f)) in
    let sums = sum_below-add (room_beside xs n h v p x) (λ f. begins xs zs p f * x) p in
    let scaled = sum_below-scaled (begins xs zs p) x p in
    omega (arith, bytes, parts, each, sums, scaled)

-- a number below which the room doesn't suffice is reached
needs-more : (k x r b g : ℕ) → (k - 1) * x + r < b → b ≤ r + g * x → k ≤ g
needs-more zero x r b g above fits = omega arith
needs-more (suc k) x r b g above fits =
    let same : (suc k - 1) * x ≡ k * x = ap (λ w. w * x) (let one : suc k - 1 ≡ k = omega arith in one) in
    let less : k < g = lt_of_mul-lt-mul_right x (omega (arith, same, above, fits)) in
    omega (arith, less)

-- so a period begins as many classes as its pair says
needed-begun : (loads : List Load) (n v : ℕ) (ps : Prefix) (plan : List Place) → AreLoads loads → Extends ps (map Some plan) → IsLegal loads n plan →
    ((t : ℕ) → t < lcm_of (periods_of loads) → tick_cost (plan_items loads plan) n t ≤ v - 1) → (p : ℕ) (pair : Pair) →
    IsNeeded (items loads ps) n (lcm_of (periods_of loads)) v (unplaced loads ps) p pair → pair.count ≤ begun (items loads ps) (items_beyond loads ps plan) p
needed-begun loads n v ps plan within e legal low p pair needed = by-count pair.count refl
  where
    by-count : (k : ℕ) → pair.count ≡ k → pair.count ≤ begun (items loads ps) (items_beyond loads ps plan) p
    by-count zero is = omega (arith, is)
    by-count (suc k) is =
        needs-more pair.count pair.room (sum_below (room_beside (items loads ps) n (lcm_of (periods_of loads)) v p pair.room) p) (bytes_at p (unplaced loads ps)) (begun (items loads ps) (items_beyond loads ps plan) p)
        (needed (omega (arith, is))) (period-fits loads n v ps plan within e legal low p pair.room)

-- numbers that all differ
abbrev AreApart : List ℕ → Type 0
AreApart [] = Unit {0}
AreApart (p ∷ ps) = (list_any (λ q. p == q) ps ≡ false) × AreApart ps

-- as many groups of a list as periods pass a test, beyond other groups of the list
many-groups : (t : ℕ) (test : ℕ → Bool) (gs : List Group) → ((p : ℕ) → test p ≡ true → mem (p, t % p) gs ≡ true) → (qs : List ℕ) → AreApart qs → (fs : List Group) →
    ((a : Group) → mem a fs ≡ true → mem a gs ≡ true) → ((p : ℕ) → list_any (λ q. p == q) qs ≡ true → test p ≡ true → mem (p, t % p) fs ≡ false) →
    count_by test qs + different fs ≤ different gs
many-groups t test gs there [] apart fs sub absent = let all = different-subset fs gs sub in omega (arith, all)
many-groups t test gs there (p ∷ qs) apart fs sub absent =
    let counted = sum_by-cons (λ q. cond (test q) 1 0) p qs in
    elim (cases_Bool (test p)) [
      | inl passing ↦
          let g : Group = (p, t % p) in
          let none : mem g fs ≡ false = absent p (ap (λ b. b || list_any (λ q. p == q) qs) (eq-eqb p p refl)) passing in
          let one : ◌≡◌ {A = ℕ} (cond (mem g fs) 0 1) 1 = cond-false (mem g fs) 0 1 none in
          let here : ◌≡◌ {A = ℕ} (cond (test p) 1 0) 1 = cond-true (test p) 1 0 passing in
          let rest : count_by test qs + different (g ∷ fs) ≤ different gs = many-groups t test gs there qs apart.1 (g ∷ fs)
          (λ a m. elim (or_cases (same_group a g) (mem a fs) m) [
            | inl is ↦ ap (λ w. mem w gs) (same_group-is a g is) ∙ there p passing
            | inr old ↦ sub a old
          ])
          (λ q m pass. false_from_ne_true (mem (q, t % q) (g ∷ fs)) (λ again. elim (or_cases (same_group (q, t % q) g) (mem (q, t % q) fs) again) [
            | inl is ↦
                let parts = and_parts (q == p) ((t % q) == (t % p)) is in
                false≢true (sym apart.0 ∙ ap (λ w. list_any (λ y. w == y) qs) (sym (eqb-true q p parts.0)) ∙ m)
            | inr old ↦ false≢true (sym (absent q (or_right (q == p) (list_any (λ y. q == y) qs) m) pass) ∙ old)
          ])) in
          omega (arith, counted, one, here, rest)
      | inr fails ↦
          let here : ◌≡◌ {A = ℕ} (cond (test p) 1 0) 0 = cond-false (test p) 1 0 fails in
          let rest = many-groups t test gs there qs apart.1 fs sub (λ q m pass. absent q (or_right (q == p) (list_any (λ y. q == y) qs) m) pass) in
          omega (arith, counted, here, rest)
    ]

-- whether a slot has a period's group in a tick, and its class is closed for xs
abbrev is_added : List Item → List Item → ℕ → ℕ → ℕ → Bool
is_added xs ys t s p = not (is_open xs p (t % p)) && mem (p, t % p) (groups ys t s)

slot-many : (xs ys : List Item) (t s : ℕ) (qs : List ℕ) → AreApart qs → Sub xs ys → count_by (is_added xs ys t s) qs + different (groups xs t s) ≤ different (groups ys t s)
slot-many xs ys t s qs apart r =
    let c = Sub-carried t s r in
    many-groups t (is_added xs ys t s) (groups ys t s) (λ p passing. (and_parts (not (is_open xs p (t % p))) (mem (p, t % p) (groups ys t s)) passing).1) qs apart (groups xs t s)
    (λ g m. Sub-groups g c m)
    (λ p _ passing. false_from_ne_true (mem (p, t % p) (groups xs t s)) (λ m.
    false≢true (sym (not-true (is_open xs p (t % p)) (and_parts (not (is_open xs p (t % p))) (mem (p, t % p) (groups ys t s)) passing).0) ∙ slot-open xs p (t % p) t s m)))

head-many : (xs ys : List Item) (t s : ℕ) (qs : List ℕ) → AreApart qs → Sub xs ys → head xs t s + 12 * count_by (is_added xs ys t s) qs ≤ head ys t s
head-many xs ys t s qs apart r =
    let many = slot-many xs ys t s qs apart r in
    elim (cases_Bool (list_any (is_sent t s) ys)) [
      | inl busy ↦ elim (cases_Bool (list_any (is_sent t s) xs)) [
        | inl old ↦ rw (old, busy) (omega (arith, many))
        | inr idle ↦ rw (idle, busy) (omega (arith, many))
      ]
      | inr idle ↦
          let none : different (groups ys t s) ≡ 0 = ap (λ zs. different (map (λ z. (z.period, z.phase)) zs)) (idle-carried ys t s idle) in
          let old : list_any (is_sent t s) xs ≡ false = false_from_ne_true (list_any (is_sent t s) xs) (λ b. false≢true (sym idle ∙ Sub-busy t s r b)) in
          rw (old, idle) (omega (arith, many, none))
    ]

-- a class that begins has its group in some slot
begins-slot : (xs ys zs : List Item) (n t p : ℕ) → All (λ x. x.slot < n) ys → (is_open zs p (t % p) ≡ true → is_open ys p (t % p) ≡ true) →
    begins xs zs p (t % p) ≤ sum_below (λ s. cond (is_added xs ys t s p) 1 0) n
begins-slot xs ys zs n t p slots beyond =
    elim (cases_Bool (is_open xs p (t % p))) [
      | inl opened ↦ let none : begins xs zs p (t % p) ≡ 0 = cond-true (is_open xs p (t % p)) 0 (cond (is_open zs p (t % p)) 1 0) opened in omega (arith, none)
      | inr closed ↦
          let left : begins xs zs p (t % p) ≡ cond (is_open zs p (t % p)) 1 0 = cond-false (is_open xs p (t % p)) 0 (cond (is_open zs p (t % p)) 1 0) closed in
          elim (cases_Bool (is_open zs p (t % p))) [
            | inl used ↦
                let at = open-slot ys n p (t % p) t slots (beyond used) refl in
                let here : ◌≡◌ {A = ℕ} (cond (is_added xs ys t at.0 p) 1 0) 1 = cond-true (is_added xs ys t at.0 p) 1 0 (and_from (not (is_open xs p (t % p))) (mem (p, t % p) (groups ys t at.0)) (not_from_false (is_open xs p (t % p)) closed) at.2) in
                let one : ◌≡◌ {A = ℕ} (cond (is_open zs p (t % p)) 1 0) 1 = cond-true (is_open zs p (t % p)) 1 0 used in
                let term = sum_below-term (λ s. cond (is_added xs ys t s p) 1 0) n at.0 at.1 in
                omega (arith, left, here, one, term)
            | inr unused ↦
                let none : ◌≡◌ {A = ℕ} (cond (is_open zs p (t % p)) 1 0) 0 = cond-false (is_open zs p (t % p)) 1 0 unused in
                omega (arith, left, none)
          ]
    ]

-- the groups that begin in a tick
abbrev begun_in : List Item → List Item → List ℕ → ℕ → ℕ
begun_in xs zs qs t = sum_by (λ p. begins xs zs p (t % p)) qs

begun-slots : (xs ys zs : List Item) (n t : ℕ) (qs : List ℕ) → All (λ x. x.slot < n) ys → ((p f : ℕ) → is_open zs p f ≡ true → is_open ys p f ≡ true) →
    begun_in xs zs qs t ≤ sum_below (λ s. count_by (is_added xs ys t s) qs) n
begun-slots xs ys zs n t [] slots beyond = omega arith
begun-slots xs ys zs n t (p ∷ qs) slots beyond =
    let rest = begun-slots xs ys zs n t qs slots beyond in
    let one = begins-slot xs ys zs n t p slots (beyond p (t % p)) in
    let first = sum_by-cons (λ q. begins xs zs q (t % q)) p qs in
    let parts : sum_below (λ s. count_by (is_added xs ys t s) (p ∷ qs)) n ≡ sum_below (λ s. cond (is_added xs ys t s p) 1 0) n + sum_below (λ s. count_by (is_added xs ys t s) qs) n =
    sum_below-agree (λ s. count_by (is_added xs ys t s) (p ∷ qs)) (λ s. cond (is_added xs ys t s p) 1 0 + count_by (is_added xs ys t s) qs) n (λ s _. sum_by-cons (λ q. cond (is_added xs ys t s q) 1 0) p qs)
    ∙ sum_below-add (λ s. cond (is_added xs ys t s p) 1 0) (λ s. count_by (is_added xs ys t s) qs) n in
    omega (arith, rest, one, first, parts)

heads-many : (xs ys zs : List Item) (n t : ℕ) (qs : List ℕ) → AreApart qs → Sub xs ys → All (λ x. x.slot < n) ys → ((p f : ℕ) → is_open zs p f ≡ true → is_open ys p f ≡ true) →
    heads xs n t + 12 * begun_in xs zs qs t ≤ heads ys n t
unfolding heads
heads-many xs ys zs n t qs apart r slots beyond =
    let all = sum_below-le (λ s. head xs t s + 12 * count_by (is_added xs ys t s) qs) (head ys t) n (λ s _. head-many xs ys t s qs apart r) in
    let parts = sum_below-add (head xs t) (λ s. 12 * count_by (is_added xs ys t s) qs) n in
    let times = sum_below-times 12 (λ s. count_by (is_added xs ys t s) qs) n in
    let some = begun-slots xs ys zs n t qs slots beyond in
    omega (arith, all, parts, times, some)

-- a sum that repeats with a period
sum-repeats : (g : ℕ → ℕ) (p k : ℕ) → sum_below (λ t. g (t % p)) (p * k) ≡ k * sum_below g p
sum-repeats g p zero = ap (sum_below (λ t. g (t % p))) (mul-zero p) ∙ omega arith
sum-repeats g p (suc k) =
    let one : sum_below (λ j. g ((p * k + j) % p)) p ≡ sum_below g p =
    sum_below-agree (λ j. g ((p * k + j) % p)) g p (λ j l. ap g (ap (λ w. (w + j) % p) (mul_comm p k) ∙ mod-mul-add k p j l)) in
    let rest = sum-repeats g p k in
    let parts = sum_below-split (λ t. g (t % p)) (p * k) p in
    ap (sum_below (λ t. g (t % p))) (mul-suc p k) ∙ omega (arith, one, rest, parts, suc-mul k (sum_below g p))

-- the groups that begin in a hyperperiod: each class in each of its periods
sum-periods : (xs zs : List Item) (h : ℕ) (qs : List ℕ) → All (λ p. p ∣ h) qs → sum_below (begun_in xs zs qs) h ≡ sum_by (λ p. h / p * begun xs zs p) qs
sum-periods xs zs h [] whole = sum_below-none (begun_in xs zs []) h (λ _ _. refl)
sum-periods xs zs h (p ∷ qs) whole =
    let all : p * (h / p) ≡ h = mul-div_cancel' p (All-head (λ q. q ∣ h) p qs whole) in
    sum_below-agree (begun_in xs zs (p ∷ qs)) (λ t. begins xs zs p (t % p) + begun_in xs zs qs t) h (λ t _. sum_by-cons (λ q. begins xs zs q (t % q)) p qs)
    ∙ sum_below-add (λ t. begins xs zs p (t % p)) (begun_in xs zs qs) h
    ∙ (λ i. (ap (sum_below (λ t. begins xs zs p (t % p))) (sym all) ∙ sum-repeats (begins xs zs p) p (h / p)) i + sum-periods xs zs h qs (All-tail (λ q. q ∣ h) p qs whole) i)
    ∙ sym (sum_by-cons (λ q. h / q * begun xs zs q) p qs)

-- the pairs say no more groups than begin
pairs-begun : (xs zs : List Item) (h : ℕ) (R : ℕ → Pair → Type 0) → ((p : ℕ) (pair : Pair) → R p pair → pair.count ≤ begun xs zs p) → (qs : List ℕ) (pairs : List Pair) → AllZip R qs pairs →
    group_bytes h qs pairs ≤ 12 * sum_by (λ p. h / p * begun xs zs p) qs
pairs-begun xs zs h R each [] [] all = omega arith
pairs-begun xs zs h R each [] (pair ∷ pairs) all = absurd all
pairs-begun xs zs h R each (p ∷ qs) [] all = absurd all
pairs-begun xs zs h R each (p ∷ qs) (pair ∷ pairs) all =
    let rest = pairs-begun xs zs h R each qs pairs all.1 in
    let step = sum_by-cons (λ q. h / q * begun xs zs q) p qs in
    let most = mul-le-mul_left (12 * (h / p)) (each p pair all.0) in
    let whole : 12 * (h / p) * begun xs zs p ≡ 12 * (h / p * begun xs zs p) = mul_assoc 12 (h / p) (begun xs zs p) in
    omega (arith, rest, step, most, whole)

-- the periods from a number on are at least that number, and differ
from-range : (test : ℕ → Bool) (q a n : ℕ) → list_any (λ w. q == w) (filter test (range_with_len a n)) ≡ true → a ≤ q
from-range test q a zero h = absurd (false≢true h)
from-range test q a (suc n) h =
    elim (cases_Bool (test a)) [
      | inl passing ↦
          let there : ((q == a) || list_any (λ w. q == w) (filter test (range_with_len (a + 1) n))) ≡ true =
          sym (ap (λ b. list_any (λ w. q == w) (cond b (a ∷ filter test (range_with_len (a + 1) n)) (filter test (range_with_len (a + 1) n)))) passing) ∙ h in
          elim (or_cases (q == a) (list_any (λ w. q == w) (filter test (range_with_len (a + 1) n))) there) [
            | inl is ↦ let at = eqb-true q a is in omega (arith, at)
            | inr later ↦ let low = from-range test q (a + 1) n later in omega (arith, low)
          ]
      | inr fails ↦
          let low = from-range test q (a + 1) n (sym (ap (λ b. list_any (λ w. q == w) (cond b (a ∷ filter test (range_with_len (a + 1) n)) (filter test (range_with_len (a + 1) n)))) fails) ∙ h) in
          omega (arith, low)
    ]

range-apart : (test : ℕ → Bool) (a n : ℕ) → AreApart (filter test (range_with_len a n))
range-apart test a zero = tt
range-apart test a (suc n) =
    let rest = range-apart test (a + 1) n in
    cond_both (test a) (a ∷ filter test (range_with_len (a + 1) n)) (filter test (range_with_len (a + 1) n)) AreApart
    (λ _. (false_from_ne_true (list_any (λ w. a == w) (filter test (range_with_len (a + 1) n))) (λ m. let low = from-range test a (a + 1) n m in omega (arith, low)), rest))
    (λ _. rest)

periods-apart : (ls : List Load) → AreApart (periods_in ls)
unfolding periods_in
periods-apart ls = range-apart (λ p. list_any (has_period p) ls) 1 60

-- the periods of units without a place divide what all periods divide
divides-unplaced : (ls : List Load) (ps : Prefix) (h : ℕ) → All (λ p. p ∣ h) (periods_of ls) → (p : ℕ) → list_any (has_period p) (unplaced ls ps) ≡ true → p ∣ h
divides-unplaced [] ps h all p m = absurd (false≢true m)
divides-unplaced (l ∷ ls) [] h all p m = absurd (false≢true m)
divides-unplaced (l ∷ ls) (None ∷ ps) h all p m =
    elim (or_cases (l.period == p) (list_any (has_period p) (unplaced ls ps)) m) [
      | inl is ↦ subst (λ q. q ∣ h) (eqb-true l.period p is) (All-head (λ q. q ∣ h) l.period (periods_of ls) all)
      | inr later ↦ divides-unplaced ls ps h (All-tail (λ q. q ∣ h) l.period (periods_of ls) all) p later
    ]
divides-unplaced (l ∷ ls) (Some x ∷ ps) h all p m = divides-unplaced ls ps h (All-tail (λ q. q ∣ h) l.period (periods_of ls) all) p m

periods-divide : (loads : List Load) (ps : Prefix) → AreLoads loads → All (λ p. p ∣ lcm_of (periods_of loads)) (periods_in (unplaced loads ps))
unfolding periods_in
periods-divide loads ps within =
    All-weaker (λ p. list_any (has_period p) (unplaced loads ps) ≡ true) (λ p. p ∣ lcm_of (periods_of loads))
    (divides-unplaced loads ps (lcm_of (periods_of loads)) (lcm_of-is (periods_of loads) (positive_loads loads within)).multiple)
    (filter (λ p. list_any (has_period p) (unplaced loads ps)) (range_with_len 1 60))
    (filter_passes (λ p. list_any (has_period p) (unplaced loads ps)) (range_with_len 1 60))

-- what the units without a place send is the demand
pub sent-demand : (ls : List Load) (ps : Prefix) (h : ℕ) → sent_bytes h (unplaced ls ps) ≡ demand ls ps h
sent-demand [] ps h = refl
sent-demand (l ∷ ls) [] h = refl
sent-demand (l ∷ ls) (None ∷ ps) h = sum_by-cons (λ y. y.bytes * (h / y.period)) l (unplaced ls ps) ∙ ap (λ w. l.bytes * (h / l.period) + w) (sent-demand ls ps h)
sent-demand (l ∷ ls) (Some p ∷ ps) h = sent-demand ls ps h

-- where no tick of the hyperperiod costs more than b, the bytes with those of the new groups aren't more than b in each tick
groups-fit : (loads : List Load) (n b v : ℕ) (ps : Prefix) (pairs : List Pair) (plan : List Place) → AreLoads loads → Extends ps (map Some plan) → IsLegal loads n plan → b ≡ v - 1 →
    ((t : ℕ) → t < lcm_of (periods_of loads) → tick_cost (plan_items loads plan) n t ≤ b) →
    AllZip (IsNeeded (items loads ps) n (lcm_of (periods_of loads)) v (unplaced loads ps)) (periods_in (unplaced loads ps)) pairs →
    sum_below (raw_cost (items loads ps) n) (lcm_of (periods_of loads)) + sent_bytes (lcm_of (periods_of loads)) (unplaced loads ps) + group_bytes (lcm_of (periods_of loads)) (periods_in (unplaced loads ps)) pairs
    ≤ b * lcm_of (periods_of loads)
groups-fit loads n b v ps pairs plan within e legal is low needed =
    let h = lcm_of (periods_of loads) in
    let xs = items loads ps in
    let ys = plan_items loads plan in
    let zs = items_beyond loads ps plan in
    let qs = periods_in (unplaced loads ps) in
    let r = Sub-items loads e in
    let whole = AreWhole-legal loads n plan within legal in
    let first = sum_raw xs n h (All-Sub (λ x. (x.slot < n) × (x.phase < x.period) × (x.period ∣ h)) r whole) in
    let second = sum_raw ys n h whole in
    let bytes = weight-extends loads ps plan h e in
    let sent = sent-demand loads ps h in
    let ticks = sum_below-le (λ t. heads xs n t + 12 * begun_in xs zs qs t) (heads ys n) h (λ t _. heads-many xs ys zs n t qs (periods-apart (unplaced loads ps)) r legal.slots (λ p f. open-beyond loads ps plan p f e)) in
    let parts = sum_below-add (heads xs n) (λ t. 12 * begun_in xs zs qs t) h in
    let times = sum_below-times 12 (begun_in xs zs qs) h in
    let periods = sum-periods xs zs h qs (periods-divide loads ps within) in
    let said = pairs-begun xs zs h (IsNeeded xs n h v (unplaced loads ps)) (needed-begun loads n v ps plan within e legal (λ t l. let c = low t l in omega (arith, c, is))) qs pairs needed in
    let raw = sum_below-le (raw_cost ys n) (tick_cost ys n) h (λ t _. raw_cost-le ys n t) in
    let most = sum_below-bound (tick_cost ys n) h b low in
    omega (arith, first, second, bytes, sent, ticks, parts, times, periods, said, raw, most)

groups-at : (b : ℕ) (loads : List Load) (n : ℕ) (v : Option ℕ) (ps : Prefix) (pairs : List Pair) (plan : List Place) → AreLoads loads → Extends ps (map Some plan) → IsLegal loads n plan → v ≡ Some b →
    AreGroups loads n b ps pairs → HasTick loads n v plan
groups-at zero loads n v ps pairs plan within e legal is holds = (0, is, 0, omega arith)
groups-at (suc b) loads n v ps pairs plan within e legal is holds =
    let h = lcm_of (periods_of loads) in
    elim (above_or_all (tick_cost (plan_items loads plan) n) h b) [
      | inl reached ↦ (suc b, is, reached.0, omega (arith, reached.1))
      | inr all ↦
          let one : b ≡ suc b - 1 = omega arith in
          let fits = groups-fit loads n b (suc b) ps pairs plan within e legal one all holds.needed in
          let times : b * h ≡ (suc b - 1) * h = ap (λ w. w * h) one in
          absurd (omega (arith, fits, holds.above, times))
    ]

pub groups-bound : GroupsBound
groups-bound loads n v ps pairs plan within e legal h = groups-at h.0 loads n v ps pairs plan within e legal h.1 h.2
