-- The slaves of a legal plan: a group of theirs has no more bytes than a frame.
use Rattle.std.proofs.Common.{◌≡◌, ℕ, suc, ◌+◌, ◌<◌, ◌≤◌, ◌%◌, ◌==◌, Bool, true, false, cond, List, [], ◌∷◌, map, filter, get_or, sum_by, All, refl, sym, ap, ◌∙◌, inl, inr, arith, mod-eq_of_lt}
use Rattle.std.proofs.lemmas.Bool.{cases_Bool, and_from, and_parts, eq-eqb, eqb-true}
use Rattle.std.proofs.lemmas.List.Sums.{sum_by-cons, sum_by-append}
use Rattle.std.proofs.lemmas.List.Elements.{All-nil, All-head, All-tail, All-append, All-cons}
use Rattle.ec_units.specs.declared.slave.Place.{Place}
use Rattle.ec_units.specs.declared.slave.Slave.{Slave}
use Rattle.ec_units.specs.declared.unit.Unit.{Unit as SyncUnit}
use Rattle.ec_units.specs.Bytes.{bytes_of_slaves}
use Rattle.ec_units.specs.Load.{load_of, loads_of}
use Rattle.ec_units.specs.Views.{slave_view, unit_view}
use Rattle.ec_loads.specs.declared.item.Item.{Item}
use Rattle.ec_loads.specs.Cost.{item, plan_items, is_sent, payload}
use Rattle.ec_loads.specs.Legal.{IsLegal}
use Rattle.ec_fmmu.specs.declared.seat.Key.{Key}
use Rattle.ec_fmmu.specs.Order.{is_same}
use Rattle.ec_fmmu.specs.Seats.{key_numbers, seat, slave_seats, key_at, seats_from, seats_of, size}
use Rattle.ec_fmmu.specs.Next.{AreLight}
use Rattle.ec_fmmu.proofs.SumLemmas.{sum-filter, sum-less}

-- the numbers of the group of an item
abbrev pub item_numbers : Item → List ℕ
item_numbers x = x.slot ∷ x.period ∷ x.phase ∷ []

cond-none : (b : Bool) → ◌≡◌ {A = ℕ} (cond b 0 0) 0
cond-none true = refl
cond-none false = refl

cond-add : (b : Bool) (m n : ℕ) → cond b (m + n) 0 ≡ cond b m 0 + cond b n 0
cond-add true m n = refl
cond-add false m n = refl

-- the bytes of the groups that a test picks, slave by slave and unit by unit
slaves-sum : (p : List ℕ → Bool) (k : Key) (n i : ℕ) (ss : List Slave) →
    sum_by (λ s. cond (p (key_numbers s.key)) (size s) 0) (slave_seats k n i (map slave_view ss)) ≡ cond (p (key_numbers k)) (bytes_of_slaves ss) 0
slaves-sum p k n i [] = sym (cond-none (p (key_numbers k)))
slaves-sum p k n i (s ∷ ss) =
    sum_by-cons (λ s. cond (p (key_numbers s.key)) (size s) 0) (seat k n i (slave_view s)) (slave_seats k n (suc i) (map slave_view ss))
    ∙ ap (λ w. cond (p (key_numbers k)) (s.out_bytes + s.in_bytes) 0 + w) (slaves-sum p k n (suc i) ss)
    ∙ sym (cond-add (p (key_numbers k)) (s.out_bytes + s.in_bytes) (bytes_of_slaves ss))
    ∙ ap (λ w. cond (p (key_numbers k)) w 0) (sym (sum_by-cons (λ s. s.out_bytes + s.in_bytes) s ss))

pub units-sum : (p : List ℕ → Bool) (n : ℕ) (us : List SyncUnit) (ps : List Place) →
    sum_by (λ s. cond (p (key_numbers s.key)) (size s) 0) (seats_from n (map unit_view us) ps) ≡ sum_by (λ x. cond (p (item_numbers x)) x.bytes 0) (plan_items (loads_of us) ps)
units-sum p n [] ps = refl
units-sum p n (u ∷ us) [] = refl
units-sum p n (u ∷ us) (q ∷ ps) =
    sum_by-append (λ s. cond (p (key_numbers s.key)) (size s) 0) (slave_seats (key_at (unit_view u) q) n 0 (map slave_view u.slaves)) (seats_from (suc n) (map unit_view us) ps)
    ∙ (λ i. slaves-sum p (key_at (unit_view u) q) n 0 u.slaves i + units-sum p (suc n) us ps i)
    ∙ sym (sum_by-cons (λ x. cond (p (item_numbers x)) x.bytes 0) (item (load_of u) q) (plan_items (loads_of us) ps))

-- a fact about the groups of all items is one about those of all slaves
slaves-all : (P : List ℕ → Type 0) (k : Key) (n i : ℕ) (ss : List Slave) → P (key_numbers k) → All (λ s. P (key_numbers s.key)) (slave_seats k n i (map slave_view ss))
slaves-all P k n i [] h = All-nil (λ s. P (key_numbers s.key))
slaves-all P k n i (s ∷ ss) h = All-cons (λ s. P (key_numbers s.key)) (seat k n i (slave_view s)) (slave_seats k n (suc i) (map slave_view ss)) h (slaves-all P k n (suc i) ss h)

pub units-all : (P : List ℕ → Type 0) (n : ℕ) (us : List SyncUnit) (ps : List Place) → All (λ x. P (item_numbers x)) (plan_items (loads_of us) ps) → All (λ s. P (key_numbers s.key)) (seats_from n (map unit_view us) ps)
units-all P n [] ps h = All-nil (λ s. P (key_numbers s.key))
units-all P n (u ∷ us) [] h = All-nil (λ s. P (key_numbers s.key))
units-all P n (u ∷ us) (q ∷ ps) h =
    All-append (λ s. P (key_numbers s.key)) (slave_seats (key_at (unit_view u) q) n 0 (map slave_view u.slaves)) (seats_from (suc n) (map unit_view us) ps)
    (slaves-all P (key_at (unit_view u) q) n 0 u.slaves (All-head (λ x. P (item_numbers x)) (item (load_of u) q) (plan_items (loads_of us) ps) h))
    (units-all P (suc n) us ps (All-tail (λ x. P (item_numbers x)) (item (load_of u) q) (plan_items (loads_of us) ps) h))

-- an item of a group travels in the tick of its phase
sent-in-phase : (x y : Item) → x.phase < x.period → is_same (item_numbers y) (item_numbers x) ≡ true → is_sent x.phase x.slot y ≡ true
sent-in-phase x y l h =
    let a = and_parts (y.slot == x.slot) (is_same (y.period ∷ y.phase ∷ []) (x.period ∷ x.phase ∷ [])) h in
    let b = and_parts (y.period == x.period) (is_same (y.phase ∷ []) (x.phase ∷ [])) a.1 in
    let c = and_parts (y.phase == x.phase) true b.1 in
    let period : y.period ≡ x.period = eqb-true y.period x.period b.0 in
    let phase : y.phase ≡ x.phase = eqb-true y.phase x.phase c.0 in
    and_from (x.phase % y.period == y.phase) (y.slot == x.slot)
    (eq-eqb (x.phase % y.period) y.phase (ap (λ w. x.phase % w) period ∙ mod-eq_of_lt l ∙ sym phase)) a.0

group-term : (x y : Item) → x.phase < x.period → cond (is_same (item_numbers y) (item_numbers x)) y.bytes 0 ≤ cond (is_sent x.phase x.slot y) y.bytes 0
group-term x y l =
    elim (cases_Bool (is_same (item_numbers y) (item_numbers x))) [
      | inl t ↦
          let a : cond (is_same (item_numbers y) (item_numbers x)) y.bytes 0 ≡ y.bytes = ap (λ b. cond b y.bytes 0) t in
          let b : cond (is_sent x.phase x.slot y) y.bytes 0 ≡ y.bytes = ap (λ b. cond b y.bytes 0) (sent-in-phase x y l t) in
          omega (arith, a, b)
      | inr f ↦
          let a : cond (is_same (item_numbers y) (item_numbers x)) y.bytes 0 ≡ 0 = ap (λ b. cond b y.bytes 0) f in
          omega (arith, a)
    ]

-- the bytes of a group travel together
group-payload : (xs : List Item) (x : Item) → x.phase < x.period → sum_by (λ y. cond (is_same (item_numbers y) (item_numbers x)) y.bytes 0) xs ≤ payload xs x.phase x.slot
unfolding payload
group-payload xs x l =
    let a = sum-less (λ y. cond (is_same (item_numbers y) (item_numbers x)) y.bytes 0) (λ y. cond (is_sent x.phase x.slot y) y.bytes 0) xs (λ i d m. group-term x (get_or xs i d) l) in
    let b = sum-filter (λ y. y.bytes) (is_sent x.phase x.slot) xs in
    omega (arith, a, b)

pub legal-light : (us : List SyncUnit) (n : ℕ) (ps : List Place) → IsLegal (loads_of us) n ps → AreLight (seats_of (map unit_view us) ps)
legal-light us n ps legal =
    let xs = plan_items (loads_of us) ps in
    let seats = seats_of (map unit_view us) ps in
    units-all (λ g. sum_by size (filter (λ s. is_same (key_numbers s.key) g) seats) ≤ 1498) 0 us ps (λ i d l.
    let x = get_or xs i d in
    let e = sum-filter size (λ s. is_same (key_numbers s.key) (item_numbers x)) seats in
    let f = units-sum (λ g. is_same g (item_numbers x)) 0 us ps in
    let a = group-payload xs x (legal.phases i d l) in
    let b = legal.fits x.phase x.slot (legal.slots i d l) in
    omega (arith, e, f, a, b))
