-- What a plan puts into a class beyond a prefix has room there.
-- In a tick of the class its bytes come to what the prefix costs there, and 12 bytes where the class is closed; an idle tick costs 40 at
-- least (`tick-more`). The top of the class is the greatest of these (`greatest-most`), so the bytes have its room (`room-holds`).
use Rattle.std.proofs.Common.{◌≡◌, ℕ, zero, suc, ◌+◌, ◌-◌, ◌%◌, ◌<◌, ◌≤◌, ◌==◌, ◌||◌, Bool, true, false, cond, List, [], ◌∷◌, map, All, Some, None, refl, sym, ap, ◌∙◌, subst, arith, inl, inr, le_trans, mod-eq_of_lt, eqb-true}
use Prim.Native.Nat.{◌∣◌}
use native.Mathlib.Nat.{le_of_dvd}
use Rattle.std.specs.List.{list_any}
use Rattle.std.proofs.lemmas.Bool.{false≢true, and_parts, and_from, or_cases, or_parts, or_right, cases_Bool, cases_eq, cond-true, cond-false, cond_both, eq-eqb, ne_eqb, false_from_ne_true}
use Rattle.std.proofs.lemmas.List.Sums.{sum_by-cons}
use Rattle.std.proofs.lemmas.List.Elements.{All-head, All-tail, All-cons, All-nil}
use Rattle.ec_hyper.specs.Lcm.{lcm_of}
use Rattle.ec_hyper.proofs.LcmLemmas.{lcm_of-pos}
use Rattle.ec_units.specs.declared.slave.Place.{Place}
use Rattle.ec_units.specs.declared.unit.Load.{Load}
use Rattle.ec_units.specs.Load.{periods_of}
use Rattle.ec_loads.specs.declared.item.Item.{Item}
use Rattle.ec_loads.specs.Cost.{item, items, plan_items, is_sent, group, same_group, carried, groups, different, sum_below, tick_cost, raw_cost}
use Rattle.ec_loads.specs.Held.{AreLoads}
use Rattle.ec_loads.specs.Legal.{IsLegal}
use Rattle.ec_loads.specs.Rooms.{is_of_class, is_open, greatest_below, top, room}
use Rattle.ec_loads.specs.Search.{Prefix, Extends, free, same}
use Rattle.ec_loads.proofs.ItemLemmas.{positive_loads}
use Rattle.ec_bounds.specs.RoomLaws.{items_beyond, class_bytes, RoomsBound}
use Rattle.ec_bounds.proofs.SetLemmas.{Group, mem, same_group-is, different-subset}
use Rattle.ec_bounds.proofs.SubLemmas.{Sub, Sub-items, Sub-carried, Sub-groups, All-Sub, sum_below-le}
use Rattle.ec_bounds.proofs.AverageLemmas.{AreWhole-legal, sends, head, heads, head-Sub, heads-Sub, moved, raw_cost-parts, raw_cost-le}

-- the greatest of b and of what f is below n
pub greatest-most : (b : ℕ) (f : ℕ → ℕ) (n m : ℕ) → b ≤ m → ((k : ℕ) → k < n → f k ≤ m) → greatest_below b f n ≤ m
greatest-most b f zero m low all = low
greatest-most b f (suc n) m low all =
    let rest = greatest-most b f n m low (λ k l. all k (omega arith)) in
    let last = all n (omega arith) in
    omega (arith, rest, last)

pub greatest-first : (b : ℕ) (f : ℕ → ℕ) (n : ℕ) → b ≤ greatest_below b f n
greatest-first b f zero = omega arith
greatest-first b f (suc n) = let rest = greatest-first b f n in omega (arith, rest)

pub greatest-each : (b : ℕ) (f : ℕ → ℕ) (n k : ℕ) → k < n → f k ≤ greatest_below b f n
greatest-each b f zero k h = absurd (omega arith)
greatest-each b f (suc n) k h =
    elim (cases_eq k n) [
      | inl is ↦ let at : f k ≡ f n = ap f is in omega (arith, at)
      | inr apart ↦ let rest = greatest-each b f n k (omega arith) in omega (arith, rest)
    ]

-- a term of a sum, and a sum with one term that is greater
pub sum_below-term : (f : ℕ → ℕ) (n a : ℕ) → a < n → f a ≤ sum_below f n
sum_below-term f zero a h = absurd (omega arith)
sum_below-term f (suc n) a h =
    elim (cases_eq a n) [
      | inl is ↦ let at : f a ≡ f n = ap f is in omega (arith, at)
      | inr apart ↦ let rest = sum_below-term f n a (omega arith) in omega (arith, rest)
    ]

sum_below-more : (f g : ℕ → ℕ) (n a d : ℕ) → a < n → ((k : ℕ) → k < n → f k ≤ g k) → f a + d ≤ g a → sum_below f n + d ≤ sum_below g n
sum_below-more f g zero a d h all more = absurd (omega arith)
sum_below-more f g (suc n) a d h all more =
    elim (cases_eq a n) [
      | inl is ↦
          let rest = sum_below-le f g n (λ k l. all k (omega arith)) in
          let last : f n + d ≤ g n = subst (λ w. f w + d ≤ g w) is more in
          omega (arith, rest, last)
      | inr apart ↦
          let rest = sum_below-more f g n a d (omega arith) (λ k l. all k (omega arith)) more in
          let last = all n (omega arith) in
          omega (arith, rest, last)
    ]

-- an item that passes a test, of items that all have a property
pub found : {X : Type 0} (test : X → Bool) (P : X → Type 0) (xs : List X) → All P xs → list_any test xs ≡ true → (x : X) × (test x ≡ true) × P x
found test P [] all h = absurd (false≢true h)
found test P (x ∷ xs) all h =
    elim (or_cases (test x) (list_any test xs) h) [
      | inl here ↦ (x, here, All-head P x xs all)
      | inr there ↦ found test P xs (All-tail P x xs all) there
    ]

-- an item of a class has its period and phase
class_is : (p f : ℕ) (x : Item) → is_of_class p f x ≡ true → (p ≡ x.period) × (f ≡ x.phase)
class_is p f x h = let parts = and_parts (p == x.period) (f == x.phase) h in (eqb-true p x.period parts.0, eqb-true f x.phase parts.1)

-- so it travels in the ticks of the class
class-turn : (p f t : ℕ) (x : Item) → is_of_class p f x ≡ true → t % p ≡ f → t % x.period ≡ x.phase
class-turn p f t x h turn = let is = class_is p f x h in ap (λ w. t % w) (sym is.0) ∙ turn ∙ is.1

-- a group of the items behind is one of all
mem-more : (x : Item) (xs : List Item) (t s : ℕ) (g : Group) → mem g (groups xs t s) ≡ true → mem g (groups (x ∷ xs) t s) ≡ true
mem-more x xs t s g h =
    cond_both (is_sent t s x) (x ∷ carried xs t s) (carried xs t s) (λ w. mem g (map group w) ≡ true)
    (λ _. or_right (same_group g (group x)) (mem g (groups xs t s)) h) (λ _. h)

-- an open class has its group in some slot, in each of its ticks
pub open-slot : (xs : List Item) (n p f t : ℕ) → All (λ x. x.slot < n) xs → is_open xs p f ≡ true → t % p ≡ f → (s : ℕ) × (s < n) × (mem (p, f) (groups xs t s) ≡ true)
open-slot [] n p f t all h turn = absurd (false≢true h)
open-slot (x ∷ xs) n p f t all h turn =
    elim (or_cases (is_of_class p f x) (is_open xs p f) h) [
      | inl here ↦
          let sent : is_sent t x.slot x ≡ true = and_from (t % x.period == x.phase) (x.slot == x.slot) (eq-eqb (t % x.period) x.phase (class-turn p f t x here turn)) (eq-eqb x.slot x.slot refl) in
          (x.slot, All-head (λ y. y.slot < n) x xs all, ap (λ b. mem (p, f) (map group (cond b (x ∷ carried xs t x.slot) (carried xs t x.slot)))) sent ∙ ap (λ b. b || mem (p, f) (groups xs t x.slot)) here)
      | inr there ↦
          let at = open-slot xs n p f t (All-tail (λ y. y.slot < n) x xs all) there turn in
          (at.0, at.1, mem-more x xs t at.0 (p, f) at.2)
    ]

-- a group that travels in a slot is that of an open class
pub slot-open : (xs : List Item) (p f t s : ℕ) → mem (p, f) (groups xs t s) ≡ true → is_open xs p f ≡ true
slot-open [] p f t s h = h
slot-open (x ∷ xs) p f t s h =
    elim (cases_Bool (is_sent t s x)) [
      | inl sent ↦
          let there : (same_group (p, f) (group x) || mem (p, f) (groups xs t s)) ≡ true = sym (ap (λ b. mem (p, f) (map group (cond b (x ∷ carried xs t s) (carried xs t s)))) sent) ∙ h in
          elim (or_cases (same_group (p, f) (group x)) (mem (p, f) (groups xs t s)) there) [
            | inl here ↦ ap (λ b. b || is_open xs p f) here
            | inr later ↦ or_right (is_of_class p f x) (is_open xs p f) (slot-open xs p f t s later)
          ]
      | inr idle ↦
          or_right (is_of_class p f x) (is_open xs p f)
          (slot-open xs p f t s (sym (ap (λ b. mem (p, f) (map group (cond b (x ∷ carried xs t s) (carried xs t s)))) idle) ∙ h))
    ]

-- and such a slot carries something
pub busy-mem : (xs : List Item) (g : Group) (t s : ℕ) → mem g (groups xs t s) ≡ true → list_any (is_sent t s) xs ≡ true
busy-mem [] g t s h = h
busy-mem (x ∷ xs) g t s h =
    elim (cases_Bool (is_sent t s x)) [
      | inl sent ↦ ap (λ b. b || list_any (is_sent t s) xs) sent
      | inr idle ↦
          or_right (is_sent t s x) (list_any (is_sent t s) xs)
          (busy-mem xs g t s (sym (ap (λ b. mem g (map group (cond b (x ∷ carried xs t s) (carried xs t s)))) idle) ∙ h))
    ]

-- a list with a group that another hasn't has one more
pub different-more : (g : Group) (fs gs : List Group) → mem g fs ≡ false → mem g gs ≡ true → ((a : Group) → mem a fs ≡ true → mem a gs ≡ true) → 1 + different fs ≤ different gs
different-more g fs gs new there sub =
    let all : different (g ∷ fs) ≤ different gs = different-subset (g ∷ fs) gs (λ a m. elim (or_cases (same_group a g) (mem a fs) m) [
      | inl is ↦ ap (λ w. mem w gs) (same_group-is a g is) ∙ there
      | inr old ↦ sub a old
    ]) in
    let counted : ◌≡◌ {A = ℕ} (cond (mem g fs) 0 1) 1 = cond-false (mem g fs) 0 1 new in
    omega (arith, all, counted)

-- a slot with a group of a closed class has 12 bytes more
head-more : (xs ys : List Item) (p f t s : ℕ) → Sub xs ys → is_open xs p f ≡ false → mem (p, f) (groups ys t s) ≡ true → head xs t s + 12 ≤ head ys t s
head-more xs ys p f t s r closed there =
    let c = Sub-carried t s r in
    let absent : mem (p, f) (groups xs t s) ≡ false = false_from_ne_true (mem (p, f) (groups xs t s)) (λ m. false≢true (sym closed ∙ slot-open xs p f t s m)) in
    let more : 1 + different (groups xs t s) ≤ different (groups ys t s) = different-more (p, f) (groups xs t s) (groups ys t s) absent there (λ g h. Sub-groups g c h) in
    let busy = busy-mem ys (p, f) t s there in
    elim (cases_Bool (list_any (is_sent t s) xs)) [
      | inl old ↦ rw (old, busy) (omega arith)
      | inr idle ↦ rw (idle, busy) (omega arith)
    ]

-- and a slot with a group has 52 bytes at least
head-some : (ys : List Item) (p f t s : ℕ) → mem (p, f) (groups ys t s) ≡ true → 52 ≤ head ys t s
head-some ys p f t s there =
    let one : 1 ≤ different (groups ys t s) = different-more (p, f) [] (groups ys t s) refl there (λ g h. absurd (false≢true h)) in
    rw (busy-mem ys (p, f) t s there) (omega arith)

heads-more : (xs ys : List Item) (n p f t s : ℕ) → Sub xs ys → is_open xs p f ≡ false → s < n → mem (p, f) (groups ys t s) ≡ true → heads xs n t + 12 ≤ heads ys n t
unfolding heads
heads-more xs ys n p f t s r closed low there = sum_below-more (head xs t) (head ys t) n s 12 low (λ k _. head-Sub xs ys t k r) (head-more xs ys p f t s r closed there)

heads-some : (ys : List Item) (n p f t s : ℕ) → s < n → mem (p, f) (groups ys t s) ≡ true → 52 ≤ heads ys n t
unfolding heads
heads-some ys n p f t s low there = le_trans (head-some ys p f t s there) (sum_below-term (head ys t) n s low)

-- the bytes of a class travel in each of its ticks
class-moved : (zs : List Item) (p f t : ℕ) → t % p ≡ f → class_bytes zs p f ≤ moved zs t
class-moved [] p f t turn = omega arith
class-moved (z ∷ zs) p f t turn =
    let rest = class-moved zs p f t turn in
    let step = sum_by-cons (λ x. cond (is_of_class p f x) x.bytes 0) z zs in
    elim (cases_Bool (is_of_class p f z)) [
      | inl here ↦
          let sent : sends z.bytes z.period z.phase t ≡ z.bytes = cond-true (t % z.period == z.phase) z.bytes 0 (eq-eqb (t % z.period) z.phase (class-turn p f t z here turn)) in
          let counted : cond (is_of_class p f z) z.bytes 0 ≡ z.bytes = cond-true (is_of_class p f z) z.bytes 0 here in
          omega (arith, rest, step, sent, counted)
      | inr other ↦
          let counted : cond (is_of_class p f z) z.bytes 0 ≡ 0 = cond-false (is_of_class p f z) z.bytes 0 other in
          omega (arith, rest, step, counted)
    ]

-- the items of a plan are those of the prefix and those beyond it
pub moved-beyond : (ls : List Load) (ps : Prefix) (plan : List Place) (t : ℕ) → Extends ps (map Some plan) → moved (plan_items ls plan) t ≡ moved (items ls ps) t + moved (items_beyond ls ps plan) t
moved-beyond [] ps plan t e = refl
moved-beyond (l ∷ ls) [] [] t e = refl
moved-beyond (l ∷ ls) [] (q ∷ qs) t e = elim e [ ]
moved-beyond (l ∷ ls) (None ∷ ps) [] t e = elim e [ ]
moved-beyond (l ∷ ls) (Some p ∷ ps) [] t e = elim e [ ]
moved-beyond (l ∷ ls) (None ∷ ps) (q ∷ qs) t (free e) = let rest = moved-beyond ls ps qs t e in omega (arith, rest)
moved-beyond (l ∷ ls) (Some p ∷ ps) (q ∷ qs) t (same e) = let rest = moved-beyond ls ps qs t e in omega (arith, rest)

pub open-beyond : (ls : List Load) (ps : Prefix) (plan : List Place) (p f : ℕ) → Extends ps (map Some plan) → is_open (items_beyond ls ps plan) p f ≡ true → is_open (plan_items ls plan) p f ≡ true
open-beyond [] ps plan p f e h = h
open-beyond (l ∷ ls) [] [] p f e h = absurd (false≢true h)
open-beyond (l ∷ ls) [] (q ∷ qs) p f e h = elim e [ ]
open-beyond (l ∷ ls) (None ∷ ps) [] p f e h = elim e [ ]
open-beyond (l ∷ ls) (Some x ∷ ps) [] p f e h = elim e [ ]
open-beyond (l ∷ ls) (None ∷ ps) (q ∷ qs) p f (free e) h =
    elim (or_cases (is_of_class p f (item l q)) (is_open (items_beyond ls ps qs) p f) h) [
      | inl here ↦ ap (λ b. b || is_open (plan_items ls qs) p f) here
      | inr there ↦ or_right (is_of_class p f (item l q)) (is_open (plan_items ls qs) p f) (open-beyond ls ps qs p f e there)
    ]
open-beyond (l ∷ ls) (Some x ∷ ps) (q ∷ qs) p f (same e) h = or_right (is_of_class p f (item l q)) (is_open (plan_items ls qs) p f) (open-beyond ls ps qs p f e h)

pub All-beyond : (P : Item → Type 0) (ls : List Load) (ps : Prefix) (plan : List Place) → Extends ps (map Some plan) → All P (plan_items ls plan) → All P (items_beyond ls ps plan)
All-beyond P [] ps plan e all = All-nil P
All-beyond P (l ∷ ls) [] [] e all = All-nil P
All-beyond P (l ∷ ls) [] (q ∷ qs) e all = elim e [ ]
All-beyond P (l ∷ ls) (None ∷ ps) [] e all = elim e [ ]
All-beyond P (l ∷ ls) (Some x ∷ ps) [] e all = elim e [ ]
All-beyond P (l ∷ ls) (None ∷ ps) (q ∷ qs) (free e) all =
    All-cons P (item l q) (items_beyond ls ps qs) (All-head P (item l q) (plan_items ls qs) all) (All-beyond P ls ps qs e (All-tail P (item l q) (plan_items ls qs) all))
All-beyond P (l ∷ ls) (Some x ∷ ps) (q ∷ qs) (same e) all = All-beyond P ls ps qs e (All-tail P (item l q) (plan_items ls qs) all)

-- a class without an item has no bytes
pub class-none : (zs : List Item) (p f : ℕ) → is_open zs p f ≡ false → class_bytes zs p f ≡ 0
class-none [] p f h = refl
class-none (z ∷ zs) p f h =
    let parts = or_parts (is_of_class p f z) (is_open zs p f) h in
    let step = sum_by-cons (λ x. cond (is_of_class p f x) x.bytes 0) z zs in
    let counted : cond (is_of_class p f z) z.bytes 0 ≡ 0 = cond-false (is_of_class p f z) z.bytes 0 parts.0 in
    let rest = class-none zs p f parts.1 in
    omega (arith, step, counted, rest)

-- the header of a class, where it is closed
abbrev pub new_group : List Item → ℕ → ℕ → ℕ
new_group xs p f = cond (is_open xs p f) 0 12

-- what a tick of a class costs at least, where a plan puts something into the class beyond a prefix
tick-more : (loads : List Load) (n p f t : ℕ) (ps : Prefix) (plan : List Place) → Extends ps (map Some plan) → All (λ x. x.slot < n) (plan_items loads plan) → is_open (items_beyond loads ps plan) p f ≡ true → t % p ≡ f →
    (class_bytes (items_beyond loads ps plan) p f + new_group (items loads ps) p f + 40 ≤ raw_cost (plan_items loads plan) n t)
    × (class_bytes (items_beyond loads ps plan) p f + new_group (items loads ps) p f + raw_cost (items loads ps) n t ≤ raw_cost (plan_items loads plan) n t)
tick-more loads n p f t ps plan e slots used turn =
    let xs = items loads ps in
    let ys = plan_items loads plan in
    let zs = items_beyond loads ps plan in
    let r = Sub-items loads e in
    let at = open-slot ys n p f t slots (open-beyond loads ps plan p f e used) turn in
    let first = raw_cost-parts xs n t (All-Sub (λ x. x.slot < n) r slots) in
    let second = raw_cost-parts ys n t slots in
    let bytes = moved-beyond loads ps plan t e in
    let own = class-moved zs p f t turn in
    let kept = heads-Sub xs ys n t r in
    let some = heads-some ys n p f t at.0 at.1 at.2 in
    elim (cases_Bool (is_open xs p f)) [
      | inl opened ↦
          let none : new_group xs p f ≡ 0 = cond-true (is_open xs p f) 0 12 opened in
          (omega (arith, second, bytes, own, some, none), omega (arith, first, second, bytes, own, kept, none))
      | inr closed ↦
          let twelve : new_group xs p f ≡ 12 = cond-false (is_open xs p f) 0 12 closed in
          let more = heads-more xs ys n p f t at.0 r closed at.1 at.2 in
          (omega (arith, second, bytes, own, some, twelve), omega (arith, first, second, bytes, own, more, twelve))
    ]

-- what has to be left above the greatest
left-below : (b top d u : ℕ) → b + d ≤ u → top ≤ u - (b + d) → b ≤ u - (top + d)
left-below b top d u fits low = omega arith

-- what a plan puts into a class has room there, where no tick of the hyperperiod costs more than one less than the value
pub room-holds : (loads : List Load) (n v : ℕ) (ps : Prefix) (plan : List Place) → AreLoads loads → Extends ps (map Some plan) → IsLegal loads n plan →
    ((t : ℕ) → t < lcm_of (periods_of loads) → tick_cost (plan_items loads plan) n t ≤ v - 1) →
    (p f : ℕ) → class_bytes (items_beyond loads ps plan) p f ≤ room (items loads ps) n (lcm_of (periods_of loads)) v p f
room-holds loads n v ps plan within e legal low p f =
    let h = lcm_of (periods_of loads) in
    let xs = items loads ps in
    let ys = plan_items loads plan in
    let zs = items_beyond loads ps plan in
    elim (cases_Bool (is_open zs p f)) [
      | inr none ↦ let nothing = class-none zs p f none in omega (arith, nothing)
      | inl used ↦
          let whole = found (is_of_class p f) (λ x. (x.slot < n) × (x.phase < x.period) × (x.period ∣ h)) ys (AreWhole-legal loads n plan within legal) (open-beyond loads ps plan p f e used) in
          let is = class_is p f whole.0 whole.1 in
          let long = le_of_dvd (lcm_of-pos (periods_of loads) (positive_loads loads within)) whole.2.2 in
          let turn : f % p ≡ f = mod-eq_of_lt (let less : f < p = omega (arith, is.0, is.1, whole.2.1) in less) in
          let first : f < h = omega (arith, is.0, is.1, whole.2.1, long) in
          let here = tick-more loads n p f f ps plan e legal.slots used turn in
          let cheap = le_trans (raw_cost-le ys n f) (low f first) in
          let u = v - 1 in
          let b = class_bytes zs p f in
          let d = new_group xs p f in
          let most : top xs n h p f ≤ u - (b + d) = greatest-most 40 (λ t. cond (t % p == f) (raw_cost xs n t) 0) h (u - (b + d)) (omega (arith, here.0, cheap))
          (λ k below. elim (cases_eq (k % p) f) [
            | inl on ↦
                let there = tick-more loads n p f k ps plan e legal.slots used on in
                let less = le_trans (raw_cost-le ys n k) (low k below) in
                let at : cond (k % p == f) (raw_cost xs n k) 0 ≡ raw_cost xs n k = cond-true (k % p == f) (raw_cost xs n k) 0 (eq-eqb (k % p) f on) in
                omega (arith, there.1, less, at)
            | inr off ↦
                let at : cond (k % p == f) (raw_cost xs n k) 0 ≡ 0 = cond-false (k % p == f) (raw_cost xs n k) 0 (ne_eqb (k % p) f off) in
                omega (arith, at)
          ]) in
          left-below b (top xs n h p f) d u (omega (arith, here.0, cheap)) most
    ]

pub rooms-bound : RoomsBound
rooms-bound loads n v ps plan within e legal below p f = room-holds loads n v ps plan within e legal (λ t _. let low = below t in omega (arith, low)) p f
