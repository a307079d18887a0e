-- The average over a hyperperiod bounds every plan that extends a prefix.
-- The sums over slots and ticks are swapped (`sum_bytes`, `sum_moved`), and what one unit sends is counted in whole
-- periods (`sends-periods`). The average at a value b is said as `b * H < bytes + H`, which is right for 0 too.
use Rattle.std.proofs.Common.{◌≡◌, ℕ, zero, suc, ◌+◌, ◌*◌, ◌/◌, ◌%◌, ◌<◌, ◌≤◌, ◌==◌, ◌&&◌, ◌||◌, true, false, cond, List, [], ◌∷◌, map, sum_by, All, Some, None, refl, sym, ap, ◌∙◌, subst, arith, inl, inr, ◌⊎◌, mul-zero, mul-suc, mod-eq_of_lt, mul_comm, add-zero, add-suc, suc-mul}
use Prim.Native.Nat.{◌∣◌}
use native.Mathlib.Nat.{mul-div_cancel'}
use Rattle.std.specs.List.{list_any}
use Rattle.std.proofs.lemmas.Bool.{cases_Bool, cases_lt, cases_eq, eq-eqb, ne_eqb, true≢false, cond-true, cond-false}
use Rattle.std.proofs.lemmas.List.Sums.{sum_by-cons}
use Rattle.std.proofs.lemmas.List.Elements.{All-head, All-tail}
use Rattle.std.proofs.lemmas.Nat.{mod-mul-add}
use Rattle.ec_units.specs.declared.slave.Place.{Place}
use Rattle.ec_units.specs.declared.unit.Load.{Load}
use Rattle.ec_units.specs.Load.{periods_of}
use Rattle.ec_hyper.specs.Lcm.{lcm_of}
use Rattle.ec_wire.specs.Wire.{wire_of, raw_of}
use Rattle.ec_loads.specs.declared.item.Item.{Item}
use Rattle.ec_loads.specs.Cost.{items, plan_items, is_sent, group, carried, different, payload, slot_cost, sum_below, tick_cost, slot_raw, raw_cost}
use Rattle.ec_loads.specs.Held.{AreLoads}
use Rattle.ec_loads.specs.Legal.{IsLegal}
use Rattle.ec_loads.specs.Search.{Prefix, Extends, free, same, demand, least_raw}
use Rattle.ec_loads.proofs.ItemLemmas.{DivideAll-loads}
use Rattle.ec_bounds.proofs.SetLemmas.{different-subset}
use Rattle.ec_bounds.proofs.SubLemmas.{Sub, Sub-items, Sub-carried, Sub-groups, Sub-busy, All-Sub, sum_below-le}

-- sums
pub sum_below-add : (f g : ℕ → ℕ) (n : ℕ) → sum_below (λ k. f k + g k) n ≡ sum_below f n + sum_below g n
sum_below-add f g zero = refl
sum_below-add f g (suc n) = let rest = sum_below-add f g n in omega arith

pub sum_below-agree : (f g : ℕ → ℕ) (n : ℕ) → ((k : ℕ) → k < n → f k ≡ g k) → sum_below f n ≡ sum_below g n
sum_below-agree f g zero h = refl
sum_below-agree f g (suc n) h = λ i. sum_below-agree f g n (λ k l. h k (omega arith)) i + h n (omega arith) i

pub sum_below-none : (f : ℕ → ℕ) (n : ℕ) → ((k : ℕ) → k < n → f k ≡ 0) → sum_below f n ≡ 0
sum_below-none f zero h = refl
sum_below-none f (suc n) h = let rest = sum_below-none f n (λ k l. h k (omega arith)) in let last = h n (omega arith) in omega arith

-- a sum with one term
pub sum_below-one : (f : ℕ → ℕ) (n a : ℕ) → a < n → ((k : ℕ) → (k ≡ a → ⊥) → f k ≡ 0) → sum_below f n ≡ f a
sum_below-one f zero a h e = absurd (omega arith)
sum_below-one f (suc n) a h e =
    elim (cases_eq n a) [
      | inl is ↦
          let rest = sum_below-none f n (λ k l. e k (λ m. omega arith)) in
          let last : f n ≡ f a = ap f is in
          omega arith
      | inr apart ↦
          let rest = sum_below-one f n a (omega arith) e in
          let last = e n apart in
          omega arith
    ]

pub sum_below-split : (f : ℕ → ℕ) (a b : ℕ) → sum_below f (a + b) ≡ sum_below f a + sum_below (λ j. f (a + j)) b
sum_below-split f a zero = rw add-zero (omega arith)
sum_below-split f a (suc b) =
    rw add-suc (let rest = sum_below-split f a b in omega arith)

-- how much one unit sends in k periods
abbrev pub sends : ℕ → ℕ → ℕ → ℕ → ℕ
sends b p f t = cond (t % p == f) b 0

sends-period : (b p f : ℕ) → f < p → sum_below (sends b p f) p ≡ b
sends-period b p f h =
    sum_below-agree (sends b p f) (λ t. cond (t == f) b 0) p (λ k l. ap (λ w. cond (w == f) b 0) (mod-eq_of_lt l))
    ∙ sum_below-one (λ t. cond (t == f) b 0) p f h (λ k ne. cond-false (k == f) b 0 (ne_eqb k f ne))
    ∙ cond-true (f == f) b 0 (eq-eqb f f refl)

sends-periods : (b p f k : ℕ) → f < p → sum_below (sends b p f) (p * k) ≡ b * k
sends-periods b p f zero h = rw mul-zero (sym (mul-zero b))
sends-periods b p f (suc k) h =
    let here : sum_below (λ j. sends b p f (p * k + j)) p ≡ b =
    sum_below-agree (λ j. sends b p f (p * k + j)) (sends b p f) p (λ j l. ap (λ w. cond (w == f) b 0) (ap (λ w. (w + j) % p) (mul_comm p k) ∙ mod-mul-add k p j l ∙ sym (mod-eq_of_lt l)))
    ∙ sends-period b p f h in
    let rest = sends-periods b p f k h in
    let parts = sum_below-split (sends b p f) (p * k) p in
    ap (sum_below (sends b p f)) (mul-suc p k) ∙ omega (arith, mul-suc b k)

-- the bytes of a slot, and the rest of its payload with its overhead
abbrev pub bytes : List Item → ℕ → ℕ → ℕ
bytes xs t s = sum_by (λ x. x.bytes) (carried xs t s)

abbrev pub head : List Item → ℕ → ℕ → ℕ
head xs t s = cond (list_any (is_sent t s) xs) (40 + 12 * different (map group (carried xs t s))) 0

pub idle-carried : (xs : List Item) (t s : ℕ) → list_any (is_sent t s) xs ≡ false → carried xs t s ≡ []
idle-carried [] t s h = refl
idle-carried (x ∷ xs) t s h =
    elim (cases_Bool (is_sent t s x)) [
      | inl busy ↦ absurd (true≢false (sym (ap (λ b. b || list_any (is_sent t s) xs) busy) ∙ h))
      | inr idle ↦
          (λ i. cond (idle i) (x ∷ carried xs t s) (carried xs t s))
          ∙ idle-carried xs t s (sym (ap (λ b. b || list_any (is_sent t s) xs) idle) ∙ h)
    ]

slot_raw-parts : (xs : List Item) (t s : ℕ) → slot_raw xs t s ≡ head xs t s + bytes xs t s
unfolding payload
slot_raw-parts xs t s =
    elim (cases_Bool (list_any (is_sent t s) xs)) [
      | inl busy ↦ rw busy (omega arith)
      | inr idle ↦
          let none : bytes xs t s ≡ 0 = ap (sum_by (λ x. x.bytes)) (idle-carried xs t s idle) in
          rw idle (omega arith)
    ]

pub head-Sub : (xs ys : List Item) (t s : ℕ) → Sub xs ys → head xs t s ≤ head ys t s
head-Sub xs ys t s r =
    let c = Sub-carried t s r in
    let groups : different (map group (carried xs t s)) ≤ different (map group (carried ys t s)) = different-subset _ _ (λ g h. Sub-groups g c h) in
    elim (cases_Bool (list_any (is_sent t s) xs)) [
      | inl busy ↦ rw (busy, Sub-busy t s r busy) (omega arith)
      | inr idle ↦ rw idle (omega arith)
    ]

bytes-cons : (x : Item) (xs : List Item) (t s : ℕ) → bytes (x ∷ xs) t s ≡ cond (is_sent t s x) x.bytes 0 + bytes xs t s
bytes-cons x xs t s =
    elim (is_sent t s x) as (λ b. sum_by (λ y. y.bytes) (cond b (x ∷ carried xs t s) (carried xs t s)) ≡ cond b x.bytes 0 + bytes xs t s) [
      | true ↦ sum_by-cons (λ y. y.bytes) x (carried xs t s)
      | false ↦ omega arith
    ]

-- the bytes that travel in a tick, in all slots
abbrev pub moved : List Item → ℕ → ℕ
moved [] t = 0
moved (x ∷ xs) t = sends x.bytes x.period x.phase t + moved xs t

one_slot : (n t : ℕ) (x : Item) → x.slot < n → sum_below (λ s. cond (is_sent t s x) x.bytes 0) n ≡ sends x.bytes x.period x.phase t
one_slot n t x h =
    sum_below-one (λ s. cond (is_sent t s x) x.bytes 0) n x.slot h
    (λ k apart. elim (t % x.period == x.phase) as (λ b. cond (b && (x.slot == k)) x.bytes 0 ≡ 0) [
      | true ↦ cond-false (x.slot == k) x.bytes 0 (ne_eqb x.slot k (λ e. apart (sym e)))
      | false ↦ refl
    ])
    ∙ elim (t % x.period == x.phase) as (λ b. cond (b && (x.slot == x.slot)) x.bytes 0 ≡ cond b x.bytes 0) [
      | true ↦ cond-true (x.slot == x.slot) x.bytes 0 (eq-eqb x.slot x.slot refl)
      | false ↦ refl
    ]

pub sum_bytes : (xs : List Item) (n t : ℕ) → All (λ x. x.slot < n) xs → sum_below (bytes xs t) n ≡ moved xs t
sum_bytes [] n t h = sum_below-none (bytes [] t) n (λ _ _. refl)
sum_bytes (x ∷ xs) n t h =
    sum_below-agree (bytes (x ∷ xs) t) (λ s. cond (is_sent t s x) x.bytes 0 + bytes xs t s) n (λ s _. bytes-cons x xs t s)
    ∙ sum_below-add (λ s. cond (is_sent t s x) x.bytes 0) (bytes xs t) n
    ∙ (λ i. one_slot n t x (All-head (λ y. y.slot < n) x xs h) i + sum_bytes xs n t (All-tail (λ y. y.slot < n) x xs h) i)

unfoldable pub heads : List Item → ℕ → ℕ → ℕ
heads xs n t = sum_below (head xs t) n

pub raw_cost-parts : (xs : List Item) (n t : ℕ) → All (λ x. x.slot < n) xs → raw_cost xs n t ≡ heads xs n t + moved xs t
unfolding raw_cost heads
raw_cost-parts xs n t h =
    sum_below-agree (slot_raw xs t) (λ s. head xs t s + bytes xs t s) n (λ s _. slot_raw-parts xs t s)
    ∙ sum_below-add (head xs t) (bytes xs t) n
    ∙ ap (λ w. sum_below (head xs t) n + w) (sum_bytes xs n t h)

pub heads-Sub : (xs ys : List Item) (n t : ℕ) → Sub xs ys → heads xs n t ≤ heads ys n t
unfolding heads
heads-Sub xs ys n t r = sum_below-le (head xs t) (head ys t) n (λ s _. head-Sub xs ys t s r)

-- the bytes that travel in h ticks
abbrev pub weight : List Item → ℕ → ℕ
weight [] h = 0
weight (x ∷ xs) h = x.bytes * (h / x.period) + weight xs h

abbrev pub AreWhole : ℕ → ℕ → List Item → Type 0
AreWhole n h xs = All (λ x. (x.slot < n) × (x.phase < x.period) × (x.period ∣ h)) xs

-- the items of a legal plan are so
pub AreWhole-legal : (loads : List Load) (n : ℕ) (plan : List Place) → AreLoads loads → IsLegal loads n plan → AreWhole n (lcm_of (periods_of loads)) (plan_items loads plan)
AreWhole-legal loads n plan within legal = λ k d l. (legal.slots k d l, legal.phases k d l, DivideAll-loads loads (map Some plan) (lcm_of (periods_of loads)) within (λ i. lcm_of (periods_of loads)) k d l)

pub sum_moved : (xs : List Item) (n h : ℕ) → AreWhole n h xs → sum_below (moved xs) h ≡ weight xs h
sum_moved [] n h all = sum_below-none (moved []) h (λ _ _. refl)
sum_moved (x ∷ xs) n h all =
    let own = All-head (λ y. (y.slot < n) × (y.phase < y.period) × (y.period ∣ h)) x xs all in
    let later = All-tail (λ y. (y.slot < n) × (y.phase < y.period) × (y.period ∣ h)) x xs all in
    sum_below-add (sends x.bytes x.period x.phase) (moved xs) h
    ∙ (λ i. (ap (sum_below (sends x.bytes x.period x.phase)) (sym (mul-div_cancel' x.period own.2)) ∙ sends-periods x.bytes x.period x.phase (h / x.period) own.1) i + sum_moved xs n h later i)

pub sum_raw : (xs : List Item) (n h : ℕ) → AreWhole n h xs → sum_below (raw_cost xs n) h ≡ sum_below (heads xs n) h + weight xs h
sum_raw xs n h all =
    sum_below-agree (raw_cost xs n) (λ t. heads xs n t + moved xs t) h (λ t _. raw_cost-parts xs n t (λ k d l. (all k d l).0))
    ∙ sum_below-add (heads xs n) (moved xs) h
    ∙ ap (λ w. sum_below (heads xs n) h + w) (sum_moved xs n h all)

pub weight-extends : (ls : List Load) (places : Prefix) (plan : List Place) (h : ℕ) → Extends places (map Some plan) → weight (plan_items ls plan) h ≡ weight (items ls places) h + demand ls places h
weight-extends [] places plan h e = refl
weight-extends (l ∷ ls) [] [] h e = refl
weight-extends (l ∷ ls) [] (q ∷ qs) h e = elim e [ ]
weight-extends (l ∷ ls) (None ∷ ps) [] h e = elim e [ ]
weight-extends (l ∷ ls) (Some p ∷ ps) [] h e = elim e [ ]
weight-extends (l ∷ ls) (None ∷ ps) (q ∷ qs) h (free e) = let rest = weight-extends ls ps qs h e in omega arith
weight-extends (l ∷ ls) (Some p ∷ ps) (q ∷ qs) h (same e) = let rest = weight-extends ls ps qs h e in omega arith

pub raw_cost-le : (xs : List Item) (n t : ℕ) → raw_cost xs n t ≤ tick_cost xs n t
unfolding raw_cost tick_cost
raw_cost-le xs n t = sum_below-le (slot_raw xs t) (slot_cost xs t) n (λ s _.
    elim (list_any (is_sent t s) xs) as (λ b. cond b (raw_of (2 + payload xs t s)) 0 ≤ cond b (wire_of (2 + payload xs t s)) 0) [ true ↦ omega arith | false ↦ omega arith ])

-- below h either each value is at most w, or one is above
pub above_or_all : (f : ℕ → ℕ) (h w : ℕ) → ((t : ℕ) × (w < f t)) ⊎ ((t : ℕ) → t < h → f t ≤ w)
above_or_all f zero w = inr (λ t l. absurd (omega arith))
above_or_all f (suc h) w =
    elim (above_or_all f h w) [
      | inl found ↦ inl found
      | inr all ↦ elim (cases_lt w (f h)) [
        | inl more ↦ inl (h, more)
        | inr less ↦ inr (λ t l. elim (cases_eq t h) [
          | inl is ↦ subst (λ x. f x ≤ w) (sym is) less
          | inr apart ↦ all t (omega arith)
        ])
      ]
    ]

pub sum_below-bound : (f : ℕ → ℕ) (h w : ℕ) → ((t : ℕ) → t < h → f t ≤ w) → sum_below f h ≤ w * h
sum_below-bound f zero w all = omega arith
sum_below-bound f (suc h) w all =
    let rest = sum_below-bound f h w (λ t l. all t (omega arith)) in
    let last = all h (omega arith) in
    omega (arith, mul-suc w h)

-- where the average holds, each plan that extends the prefix has a tick that costs at least b
pub average-bounds : (loads : List Load) (n h b : ℕ) (ps : Prefix) (plan : List Place) → Extends ps (map Some plan) → AreWhole n h (plan_items loads plan) → b * h < least_raw loads n ps h + h → (t : ℕ) × (b ≤ tick_cost (plan_items loads plan) n t)
average-bounds loads n h zero ps plan e whole average = (0, omega arith)
average-bounds loads n h (suc b) ps plan e whole average =
    let xs = items loads ps in
    let ys = plan_items loads plan in
    let r = Sub-items loads e in
    let part = All-Sub (λ x. (x.slot < n) × (x.phase < x.period) × (x.period ∣ h)) r whole in
    let first = sum_raw xs n h part in
    let second = sum_raw ys n h whole in
    let c = sum_below-le (heads xs n) (heads ys n) h (λ t _. heads-Sub xs ys n t r) in
    let d = weight-extends loads ps plan h e in
    let k = sum_below-le (raw_cost ys n) (tick_cost ys n) h (λ t _. raw_cost-le ys n t) in
    elim (above_or_all (tick_cost ys n) h b) [
      | inl found ↦ (found.0, omega (arith, found.1))
      | inr all ↦ let most = sum_below-bound (tick_cost ys n) h b all in absurd (omega (arith, suc-mul b h))
    ]
