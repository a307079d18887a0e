-- The groups that travel in a slot in a tick are those of the units that do, so their datagrams are its payload.
use Rattle.std.proofs.Common.{◌≡◌, ℕ, suc, ◌+◌, ◌*◌, ◌<◌, ◌≤◌, ◌==◌, ◌&&◌, ◌||◌, Bool, true, false, cond, List, [], ◌∷◌, ◌++◌, length, map, filter, get_or, sum_by, count_by, All, refl, sym, ap, ◌∙◌, subst, inl, inr, arith}
use Rattle.std.specs.List.{list_any}
use Rattle.std.proofs.lemmas.Bool.{true≢false, false≢true, cases_Bool, and_from, and_parts, or_cases, or_left, or_right, eq-eqb, eqb-true, cond-true, cond-false, false_from_ne_true}
use Rattle.std.proofs.lemmas.List.Sums.{sum_by-cons}
use Rattle.std.proofs.lemmas.List.Elements.{All-nil, All-head, All-tail, All-cons}
use Rattle.ec_hyper.specs.Travel.{travels}
use Rattle.ec_units.specs.declared.slave.Place.{Place}
use Rattle.ec_units.specs.declared.slave.Slave.{Slave}
use Rattle.ec_units.specs.declared.unit.Unit.{Unit as SyncUnit}
use Rattle.ec_units.specs.Load.{load_of, loads_of}
use Rattle.ec_units.specs.Views.{slave_view, unit_view}
use Rattle.ec_loads.specs.declared.item.Item.{Item}
use Rattle.ec_loads.specs.Cost.{item, plan_items, is_sent, group, same_group, carried, groups, different, payload}
use Rattle.ec_frames.specs.Written.{total_of}
use Rattle.ec_fmmu.specs.declared.group.Group.{Group}
use Rattle.ec_fmmu.specs.declared.seat.Key.{Key}
use Rattle.ec_fmmu.specs.declared.seat.Seat.{Seat}
use Rattle.ec_fmmu.specs.Order.{is_same}
use Rattle.ec_fmmu.specs.Seats.{key_numbers, seat, slave_seats, key_at, seats_from, seats_of, size}
use Rattle.ec_fmmu.specs.Layout.{group_numbers, AreGroups}
use Rattle.ec_fmmu.proofs.OrderLemmas.{same_is, same_self}
use Rattle.ec_fmmu.proofs.SumLemmas.{once, sum-agree, sum-add, sum-filter, sum-none, any-append}
use Rattle.ec_fmmu.proofs.AddressLemmas.{bytes-group}
use Rattle.ec_fmmu.proofs.LegalLemmas.{item_numbers, units-sum}
use Rattle.ec_frame_builder.specs.Frames.{goes, going, datagram_of}

-- whether what has these numbers is sent in tick t in slot s
abbrev pub goes_by : ℕ → ℕ → List ℕ → Bool
goes_by t s n = travels (get_or n 1 0) (get_or n 2 0) t && (get_or n 0 0 == s)

-- the number of groups with these numbers
abbrev times : List Group → List ℕ → ℕ
times gs n = count_by (λ g. is_same (group_numbers g) n) gs

times-more : (c n : ℕ) → c * (1 + n) ≡ c + c * n
times-more c n = grind arith

times-one : (c : ℕ) → c * 1 ≡ c
times-one c = omega arith

no-one : (b : Bool) → ◌≡◌ {A = ℕ} (cond b 0 0) 0
no-one true = refl
no-one false = refl

both : (b : Bool) (m n : ℕ) → cond b (m + n) 0 ≡ cond b m 0 + cond b n 0
both true m n = refl
both false m n = refl

-- a sum of what one group alone adds
sum-one : (gs : List Group) (n : List ℕ) (c : ℕ) → sum_by (λ g. cond (is_same (group_numbers g) n) c 0) gs ≡ c * times gs n
sum-one [] n c = omega arith
sum-one (g ∷ gs) n c =
    let a : sum_by (λ g. cond (is_same (group_numbers g) n) c 0) (g ∷ gs) ≡ cond (is_same (group_numbers g) n) c 0 + sum_by (λ g. cond (is_same (group_numbers g) n) c 0) gs = sum_by-cons (λ g. cond (is_same (group_numbers g) n) c 0) g gs in
    let b : times (g ∷ gs) n ≡ once (is_same (group_numbers g) n) + times gs n = sum_by-cons (λ g. cond (is_same (group_numbers g) n) 1 0) g gs in
    let rest : sum_by (λ g. cond (is_same (group_numbers g) n) c 0) gs ≡ c * times gs n = sum-one gs n c in
    elim (cases_Bool (is_same (group_numbers g) n)) [
      | inl t ↦
          let x : cond (is_same (group_numbers g) n) c 0 ≡ c = ap (λ w. cond w c 0) t in
          let y : once (is_same (group_numbers g) n) ≡ 1 = ap once t in
          let z : times (g ∷ gs) n ≡ 1 + times gs n = omega (arith, b, y) in
          let m : c * times (g ∷ gs) n ≡ c + c * times gs n = ap (λ w. c * w) z ∙ times-more c (times gs n) in
          omega (arith, a, x, rest, m)
      | inr f ↦
          let x : cond (is_same (group_numbers g) n) c 0 ≡ 0 = ap (λ w. cond w c 0) f in
          let y : once (is_same (group_numbers g) n) ≡ 0 = ap once f in
          let m : c * times (g ∷ gs) n ≡ c * times gs n = ap (λ w. c * w) (omega (arith, b, y)) in
          omega (arith, a, x, rest, m)
    ]

-- a term of one group
pick-term : (p : List ℕ → Bool) (g n : List ℕ) (c : ℕ) → cond (p g) (cond (is_same n g) c 0) 0 ≡ cond (is_same g n) (cond (p n) c 0) 0
pick-term p g n c =
    elim (cases_Bool (is_same g n)) [
      | inl t ↦
          let e : g ≡ n = same_is g n t in
          subst (λ w. cond (p g) (cond (is_same n g) c 0) 0 ≡ cond w (cond (p n) c 0) 0) (sym t)
          (subst (λ w. cond (p w) (cond (is_same n w) c 0) 0 ≡ cond (p n) c 0) (sym e) (ap (λ w. cond (p n) (cond w c 0) 0) (same_self n)))
      | inr f ↦
          let back : is_same n g ≡ false = false_from_ne_true (is_same n g) (λ t. true≢false (sym (subst (λ w. is_same g w ≡ true) (sym (same_is n g t)) (same_self g)) ∙ f)) in
          subst (λ w. cond (p g) (cond w c 0) 0 ≡ cond (is_same g n) (cond (p n) c 0) 0) (sym back)
          (subst (λ w. cond (p g) 0 0 ≡ cond w (cond (p n) c 0) 0) (sym f) (no-one (p g)))
    ]

-- the bytes of the groups that a test picks are those of the slaves that it picks
bytes-picked : (p : List ℕ → Bool) (gs : List Group) (seats : List Seat) → All (λ s. times gs (key_numbers s.key) ≡ 1) seats →
    sum_by (λ g. cond (p (group_numbers g)) (sum_by (λ s. cond (is_same (key_numbers s.key) (group_numbers g)) (size s) 0) seats) 0) gs ≡ sum_by (λ s. cond (p (key_numbers s.key)) (size s) 0) seats
bytes-picked p gs [] h = sum-none (λ g. cond (p (group_numbers g)) 0 0) gs (λ i d l. no-one (p (group_numbers (get_or gs i d))))
bytes-picked p gs (s ∷ ss) h =
    let own = λ (g : Group). cond (is_same (key_numbers s.key) (group_numbers g)) (size s) 0 in
    let others = λ (g : Group). sum_by (λ s. cond (is_same (key_numbers s.key) (group_numbers g)) (size s) 0) ss in
    let alone : times gs (key_numbers s.key) ≡ 1 = All-head (λ s. times gs (key_numbers s.key) ≡ 1) s ss h in
    sum-agree
    (λ g. cond (p (group_numbers g)) (sum_by (λ s. cond (is_same (key_numbers s.key) (group_numbers g)) (size s) 0) (s ∷ ss)) 0)
    (λ g. cond (is_same (group_numbers g) (key_numbers s.key)) (cond (p (key_numbers s.key)) (size s) 0) 0 + cond (p (group_numbers g)) (others g) 0) gs (λ i d l.
    let g = get_or gs i d in
    ap (λ w. cond (p (group_numbers g)) w 0) (sum_by-cons (λ s. cond (is_same (key_numbers s.key) (group_numbers g)) (size s) 0) s ss)
    ∙ both (p (group_numbers g)) (own g) (others g)
    ∙ ap (λ w. w + cond (p (group_numbers g)) (others g) 0) (pick-term p (group_numbers g) (key_numbers s.key) (size s)))
    ∙ sum-add (λ g. cond (is_same (group_numbers g) (key_numbers s.key)) (cond (p (key_numbers s.key)) (size s) 0) 0) (λ g. cond (p (group_numbers g)) (others g) 0) gs
    ∙ (λ i.
    (sum-one gs (key_numbers s.key) (cond (p (key_numbers s.key)) (size s) 0) ∙ ap (λ w. cond (p (key_numbers s.key)) (size s) 0 * w) alone ∙ times-one (cond (p (key_numbers s.key)) (size s) 0)) i
    + bytes-picked p gs ss (All-tail (λ s. times gs (key_numbers s.key) ≡ 1) s ss h) i)
    ∙ sym (sum_by-cons (λ s. cond (p (key_numbers s.key)) (size s) 0) s ss)

-- ---- the number of groups

-- one of the items is sent and in the group with these numbers
abbrev has_sent : ℕ → ℕ → List ℕ → List Item → Bool
has_sent t s n xs = list_any (λ x. is_sent t s x && is_same n (item_numbers x)) xs

and-true : (a b : Bool) → (a && b) ≡ (a && (b && true))
and-true true true = refl
and-true true false = refl
and-true false b = refl

-- of sent items one is in the group of another where their numbers are one
same-sent : (t s : ℕ) (x y : Item) → is_sent t s x ≡ true → is_sent t s y ≡ true → same_group (group x) (group y) ≡ is_same (item_numbers x) (item_numbers y)
same-sent t s x y a b =
    let xs = eqb-true x.slot s (and_parts (travels x.period x.phase t) (x.slot == s) a).1 in
    let ys = eqb-true y.slot s (and_parts (travels y.period y.phase t) (y.slot == s) b).1 in
    let one : (x.slot == y.slot) ≡ true = eq-eqb x.slot y.slot (xs ∙ sym ys) in
    and-true (x.period == y.period) (x.phase == y.phase) ∙ sym (ap (λ w. w && ((x.period == y.period) && ((x.phase == y.phase) && true))) one)

has_sent-group : (t s : ℕ) (x : Item) (xs : List Item) → is_sent t s x ≡ true → list_any (same_group (group x)) (groups xs t s) ≡ has_sent t s (item_numbers x) xs
has_sent-group t s x [] a = refl
has_sent-group t s x (y ∷ ys) a =
    elim (cases_Bool (is_sent t s y)) [
      | inl b ↦
          ap (λ w. list_any (same_group (group x)) (map group w)) (cond-true (is_sent t s y) (y ∷ filter (is_sent t s) ys) (filter (is_sent t s) ys) b)
          ∙ (λ i. same-sent t s x y a b i || has_sent-group t s x ys a i)
          ∙ ap (λ w. (w && is_same (item_numbers x) (item_numbers y)) || has_sent t s (item_numbers x) ys) (sym b)
      | inr b ↦
          ap (λ w. list_any (same_group (group x)) (map group w)) (cond-false (is_sent t s y) (y ∷ filter (is_sent t s) ys) (filter (is_sent t s) ys) b)
          ∙ has_sent-group t s x ys a
          ∙ ap (λ w. (w && is_same (item_numbers x) (item_numbers y)) || has_sent t s (item_numbers x) ys) (sym b)
    ]

more-true : (b : Bool) → once (true || b) ≡ once b + cond true (cond b 0 1) 0
more-true true = refl
more-true false = refl

-- how one more sent item changes what is said of a group
one-more : (a b : Bool) (n : Bool) → (a ≡ true → b ≡ n) → once (a || b) ≡ once b + cond a (cond n 0 1) 0
one-more true b n h = subst (λ w. once (true || b) ≡ once b + cond true (cond w 0 1) 0) (h refl) (more-true b)
one-more false b n h = omega arith

add-swap : (m n : ℕ) → m + n ≡ n + m
add-swap m n = omega arith

count-sent : (t s : ℕ) (gs : List Group) (xs : List Item) → All (λ x. times gs (item_numbers x) ≡ 1) xs → sum_by (λ g. once (has_sent t s (group_numbers g) xs)) gs ≡ different (groups xs t s)
count-sent t s gs [] h = sum-none (λ g. 0) gs (λ i d l. refl)
count-sent t s gs (x ∷ xs) h =
    let rest = count-sent t s gs xs (All-tail (λ x. times gs (item_numbers x) ≡ 1) x xs h) in
    let alone : times gs (item_numbers x) ≡ 1 = All-head (λ x. times gs (item_numbers x) ≡ 1) x xs h in
    elim (cases_Bool (is_sent t s x)) [
      | inl a ↦
          let n = has_sent t s (item_numbers x) xs in
          sum-agree (λ g. once (has_sent t s (group_numbers g) (x ∷ xs))) (λ g. once (has_sent t s (group_numbers g) xs) + cond (is_same (group_numbers g) (item_numbers x)) (cond n 0 1) 0) gs (λ i d l.
          let g = get_or gs i d in
          ap (λ w. once ((w && is_same (group_numbers g) (item_numbers x)) || has_sent t s (group_numbers g) xs)) a
          ∙ one-more (is_same (group_numbers g) (item_numbers x)) (has_sent t s (group_numbers g) xs) n (λ e. ap (λ w. has_sent t s w xs) (same_is (group_numbers g) (item_numbers x) e)))
          ∙ sum-add (λ g. once (has_sent t s (group_numbers g) xs)) (λ g. cond (is_same (group_numbers g) (item_numbers x)) (cond n 0 1) 0) gs
          ∙ (λ i. rest i + (sum-one gs (item_numbers x) (cond n 0 1) ∙ ap (λ w. cond n 0 1 * w) alone ∙ times-one (cond n 0 1)) i)
          ∙ add-swap (different (groups xs t s)) (cond n 0 1)
          ∙ ap (λ w. cond w 0 1 + different (groups xs t s)) (sym (has_sent-group t s x xs a))
          ∙ ap (λ w. different (map group w)) (sym (cond-true (is_sent t s x) (x ∷ filter (is_sent t s) xs) (filter (is_sent t s) xs) a))
      | inr a ↦
          sum-agree (λ g. once (has_sent t s (group_numbers g) (x ∷ xs))) (λ g. once (has_sent t s (group_numbers g) xs)) gs (λ i d l.
          let g = get_or gs i d in
          ap (λ w. once ((w && is_same (group_numbers g) (item_numbers x)) || has_sent t s (group_numbers g) xs)) a)
          ∙ rest
          ∙ ap (λ w. different (map group w)) (sym (cond-false (is_sent t s x) (x ∷ filter (is_sent t s) xs) (filter (is_sent t s) xs) a))
    ]

-- ---- slaves and units

-- what is found among slaves is found among units, and what holds of all slaves' groups holds of all units'
slaves-any : (p : List ℕ → Bool) (k : Key) (n i : ℕ) (ss : List Slave) → list_any (λ s. p (key_numbers s.key)) (slave_seats k n i (map slave_view ss)) ≡ true → p (key_numbers k) ≡ true
slaves-any p k n i [] h = absurd (false≢true h)
slaves-any p k n i (s ∷ ss) h =
    elim (or_cases (p (key_numbers k)) (list_any (λ s. p (key_numbers s.key)) (slave_seats k n (suc i) (map slave_view ss))) h) [
      | inl a ↦ a
      | inr b ↦ slaves-any p k n (suc i) ss b
    ]

pub units-any : (p : List ℕ → Bool) (n : ℕ) (us : List SyncUnit) (ps : List Place) → list_any (λ s. p (key_numbers s.key)) (seats_from n (map unit_view us) ps) ≡ true → list_any (λ x. p (item_numbers x)) (plan_items (loads_of us) ps) ≡ true
units-any p n [] ps h = absurd (false≢true h)
units-any p n (u ∷ us) [] h = absurd (false≢true h)
units-any p n (u ∷ us) (q ∷ ps) h =
    let k = key_at (unit_view u) q in
    elim (or_cases (list_any (λ s. p (key_numbers s.key)) (slave_seats k n 0 (map slave_view u.slaves))) (list_any (λ s. p (key_numbers s.key)) (seats_from (suc n) (map unit_view us) ps))
    (sym (any-append (λ s. p (key_numbers s.key)) (slave_seats k n 0 (map slave_view u.slaves)) (seats_from (suc n) (map unit_view us) ps)) ∙ h)) [
      | inl a ↦ or_left (p (key_numbers k)) (list_any (λ x. p (item_numbers x)) (plan_items (loads_of us) ps)) (slaves-any p k n 0 u.slaves a)
      | inr b ↦ or_right (p (key_numbers k)) (list_any (λ x. p (item_numbers x)) (plan_items (loads_of us) ps)) (units-any p (suc n) us ps b)
    ]

slaves-one : (P : List ℕ → Type 0) (k : Key) (n : ℕ) (ss : List Slave) (later : List Seat) → 1 ≤ length ss → All (λ s. P (key_numbers s.key)) (slave_seats k n 0 (map slave_view ss) ++ later) → P (key_numbers k)
slaves-one P k n [] later l h = absurd (omega (arith, l))
slaves-one P k n (s ∷ ss) later l h = All-head (λ s. P (key_numbers s.key)) (seat k n 0 (slave_view s)) (slave_seats k n 1 (map slave_view ss) ++ later) h

later-all : {X : Type 0} (P : X → Type 0) (xs ys : List X) → All P (xs ++ ys) → All P ys
later-all P [] ys h = h
later-all P (x ∷ xs) ys h = later-all P xs ys (All-tail P x (xs ++ ys) h)

all-items : (P : List ℕ → Type 0) (n : ℕ) (us : List SyncUnit) (ps : List Place) → All (λ s. P (key_numbers s.key)) (seats_from n (map unit_view us) ps) → All (λ x. P (item_numbers x)) (plan_items (loads_of us) ps)
all-items P n [] ps h = All-nil (λ x. P (item_numbers x))
all-items P n (u ∷ us) [] h = All-nil (λ x. P (item_numbers x))
all-items P n (u ∷ us) (q ∷ ps) h =
    let k = key_at (unit_view u) q in
    All-cons (λ x. P (item_numbers x)) (item (load_of u) q) (plan_items (loads_of us) ps)
    (slaves-one P k n u.slaves (seats_from (suc n) (map unit_view us) ps) u.slave_count.0 h)
    (all-items P (suc n) us ps (later-all (λ s. P (key_numbers s.key)) (slave_seats k n 0 (map slave_view u.slaves)) (seats_from (suc n) (map unit_view us) ps) h))

-- ---- the law

twelve-one : (b : Bool) → cond b 12 0 ≡ 12 * once b
twelve-one true = refl
twelve-one false = refl

twelve : (gs : List Group) (p : Group → Bool) → sum_by (λ g. cond (p g) 12 0) gs ≡ 12 * sum_by (λ g. once (p g)) gs
twelve [] p = refl
twelve (g ∷ gs) p =
    let a : sum_by (λ g. cond (p g) 12 0) (g ∷ gs) ≡ cond (p g) 12 0 + sum_by (λ g. cond (p g) 12 0) gs = sum_by-cons (λ g. cond (p g) 12 0) g gs in
    let b : sum_by (λ g. once (p g)) (g ∷ gs) ≡ once (p g) + sum_by (λ g. once (p g)) gs = sum_by-cons (λ g. once (p g)) g gs in
    let rest = twelve gs p in
    let e = twelve-one (p g) in
    omega (arith, a, b, rest, e)

pub sum_by-map : {X Y : Type 0} (f : Y → ℕ) (h : X → Y) (xs : List X) → sum_by f (map h xs) ≡ sum_by (λ x. f (h x)) xs
sum_by-map f h [] = refl
sum_by-map f h (x ∷ xs) = sum_by-cons f (h x) (map h xs) ∙ ap (λ w. f (h x) + w) (sum_by-map f h xs) ∙ sym (sum_by-cons (λ x. f (h x)) x xs)

-- a group goes where an item of it is sent
sent-goes : (t s : ℕ) (n : List ℕ) (xs : List Item) → has_sent t s n xs ≡ true → goes_by t s n ≡ true
sent-goes t s n [] h = absurd (false≢true h)
sent-goes t s n (x ∷ xs) h =
    elim (or_cases (is_sent t s x && is_same n (item_numbers x)) (has_sent t s n xs) h) [
      | inl a ↦
          let p = and_parts (is_sent t s x) (is_same n (item_numbers x)) a in
          subst (λ w. goes_by t s w ≡ true) (sym (same_is n (item_numbers x) p.1)) p.0
      | inr b ↦ sent-goes t s n xs b
    ]

goes-sent : (t s : ℕ) (n : List ℕ) (xs : List Item) → goes_by t s n ≡ true → list_any (λ x. is_same (item_numbers x) n) xs ≡ true → has_sent t s n xs ≡ true
goes-sent t s n [] g h = absurd (false≢true h)
goes-sent t s n (x ∷ xs) g h =
    elim (or_cases (is_same (item_numbers x) n) (list_any (λ x. is_same (item_numbers x) n) xs) h) [
      | inl a ↦
          let e : item_numbers x ≡ n = same_is (item_numbers x) n a in
          or_left (is_sent t s x && is_same n (item_numbers x)) (has_sent t s n xs)
          (and_from (is_sent t s x) (is_same n (item_numbers x)) (subst (λ w. goes_by t s w ≡ true) (sym e) g) (subst (λ w. is_same n w ≡ true) (sym e) (same_self n)))
      | inr b ↦ or_right (is_sent t s x && is_same n (item_numbers x)) (has_sent t s n xs) (goes-sent t s n xs g b)
    ]

same-bool : (a b : Bool) → (a ≡ true → b ≡ true) → (b ≡ true → a ≡ true) → a ≡ b
same-bool true b f g = sym (f refl)
same-bool false true f g = g refl
same-bool false false f g = refl

-- a group of the layout goes exactly where an item of it is sent
goes-has : (us : List SyncUnit) (ps : List Place) (gs : List Group) (t s : ℕ) → AreGroups (seats_of (map unit_view us) ps) gs → (i : ℕ) (d : Group) → i < length gs →
    goes t s (get_or gs i d) ≡ has_sent t s (group_numbers (get_or gs i d)) (plan_items (loads_of us) ps)
goes-has us ps gs t s h i d l =
    let g = get_or gs i d in
    let n = group_numbers g in
    let xs = plan_items (loads_of us) ps in
    same-bool (goes t s g) (has_sent t s n xs)
    (λ a. goes-sent t s n xs a (units-any (λ k. is_same k n) 0 us ps (h.each i d l).found))
    (sent-goes t s n xs)

-- the datagrams of the groups that go are the payload
pub going-payload : (us : List SyncUnit) (ps : List Place) (gs : List Group) (t s : ℕ) → AreGroups (seats_of (map unit_view us) ps) gs → total_of (map datagram_of (going gs t s)) ≡ payload (plan_items (loads_of us) ps) t s
unfolding payload
going-payload us ps gs t s h =
    let seats = seats_of (map unit_view us) ps in
    let xs = plan_items (loads_of us) ps in
    let p = goes_by t s in
    let a : total_of (map datagram_of (going gs t s)) ≡ sum_by (λ g. g.len + 12) (going gs t s) = sum_by-map (λ d. d.len + 12) datagram_of (going gs t s) in
    let b : sum_by (λ g. g.len + 12) (going gs t s) ≡ sum_by (λ g. cond (goes t s g) (g.len + 12) 0) gs = sum-filter (λ g. g.len + 12) (goes t s) gs in
    let c : sum_by (λ g. cond (goes t s g) (g.len + 12) 0) gs ≡ sum_by (λ g. cond (goes t s g) g.len 0) gs + sum_by (λ g. cond (goes t s g) 12 0) gs =
    sum-agree (λ g. cond (goes t s g) (g.len + 12) 0) (λ g. cond (goes t s g) g.len 0 + cond (goes t s g) 12 0) gs (λ i d l. both (goes t s (get_or gs i d)) (get_or gs i d).len 12)
    ∙ sum-add (λ g. cond (goes t s g) g.len 0) (λ g. cond (goes t s g) 12 0) gs in
    let e : sum_by (λ g. cond (goes t s g) g.len 0) gs ≡ sum_by (λ s. cond (p (key_numbers s.key)) (size s) 0) seats =
    sum-agree (λ g. cond (goes t s g) g.len 0) (λ g. cond (p (group_numbers g)) (sum_by (λ s. cond (is_same (key_numbers s.key) (group_numbers g)) (size s) 0) seats) 0) gs (λ i d l.
    let g = get_or gs i d in
    ap (λ w. cond (goes t s g) w 0) ((h.each i d l).len ∙ bytes-group seats g.slot g.period g.phase ∙ sum-filter size (λ s. is_same (key_numbers s.key) (group_numbers g)) seats))
    ∙ bytes-picked p gs seats h.whole in
    let f : sum_by (λ s. cond (p (key_numbers s.key)) (size s) 0) seats ≡ sum_by (λ x. x.bytes) (carried xs t s) = units-sum p 0 us ps ∙ sym (sum-filter (λ x. x.bytes) (is_sent t s) xs) in
    let n : sum_by (λ g. cond (goes t s g) 12 0) gs ≡ 12 * different (groups xs t s) =
    twelve gs (goes t s) ∙ ap (λ w. 12 * w) (sum-agree (λ g. once (goes t s g)) (λ g. once (has_sent t s (group_numbers g) xs)) gs (λ i d l. ap once (goes-has us ps gs t s h i d l))
    ∙ count-sent t s gs xs (all-items (λ n. times gs n ≡ 1) 0 us ps h.whole)) in
    omega (arith, a, b, c, e, f, n)

sent-any : (t s : ℕ) (n : List ℕ) (xs : List Item) → has_sent t s n xs ≡ true → list_any (is_sent t s) xs ≡ true
sent-any t s n [] h = absurd (false≢true h)
sent-any t s n (x ∷ xs) h =
    elim (or_cases (is_sent t s x && is_same n (item_numbers x)) (has_sent t s n xs) h) [
      | inl a ↦ or_left (is_sent t s x) (list_any (is_sent t s) xs) (and_parts (is_sent t s x) (is_same n (item_numbers x)) a).0
      | inr b ↦ or_right (is_sent t s x) (list_any (is_sent t s) xs) (sent-any t s n xs b)
    ]

group-item : (t s : ℕ) (gs : List Group) (xs : List Item) → All (λ g. goes t s g ≡ has_sent t s (group_numbers g) xs) gs → list_any (goes t s) gs ≡ true → list_any (is_sent t s) xs ≡ true
group-item t s [] xs h e = absurd (false≢true e)
group-item t s (g ∷ gs) xs h e =
    elim (or_cases (goes t s g) (list_any (goes t s) gs) e) [
      | inl a ↦ sent-any t s (group_numbers g) xs (sym (All-head (λ g. goes t s g ≡ has_sent t s (group_numbers g) xs) g gs h) ∙ a)
      | inr b ↦ group-item t s gs xs (All-tail (λ g. goes t s g ≡ has_sent t s (group_numbers g) xs) g gs h) b
    ]

times-any : (t s : ℕ) (gs : List Group) (n : List ℕ) → goes_by t s n ≡ true → 0 < times gs n → list_any (goes t s) gs ≡ true
times-any t s [] n g l = absurd (omega (arith, l))
times-any t s (x ∷ xs) n g l =
    let b : times (x ∷ xs) n ≡ once (is_same (group_numbers x) n) + times xs n = sum_by-cons (λ g. cond (is_same (group_numbers g) n) 1 0) x xs in
    elim (cases_Bool (is_same (group_numbers x) n)) [
      | inl e ↦ or_left (goes t s x) (list_any (goes t s) xs) (subst (λ w. goes_by t s w ≡ true) (sym (same_is (group_numbers x) n e)) g)
      | inr f ↦
          let y : once (is_same (group_numbers x) n) ≡ 0 = ap once f in
          or_right (goes t s x) (list_any (goes t s) xs) (times-any t s xs n g (omega (arith, b, y, l)))
    ]

item-group : (t s : ℕ) (gs : List Group) (xs : List Item) → list_any (is_sent t s) xs ≡ true → All (λ x. times gs (item_numbers x) ≡ 1) xs → list_any (goes t s) gs ≡ true
item-group t s gs [] e h = absurd (false≢true e)
item-group t s gs (x ∷ xs) e h =
    elim (or_cases (is_sent t s x) (list_any (is_sent t s) xs) e) [
      | inl a ↦ let one = All-head (λ x. times gs (item_numbers x) ≡ 1) x xs h in times-any t s gs (item_numbers x) a (omega (arith, one))
      | inr b ↦ item-group t s gs xs b (All-tail (λ x. times gs (item_numbers x) ≡ 1) x xs h)
    ]

-- a slot carries something exactly where an item is sent in it
pub carries-busy : (us : List SyncUnit) (ps : List Place) (gs : List Group) (t s : ℕ) → AreGroups (seats_of (map unit_view us) ps) gs → list_any (goes t s) gs ≡ list_any (is_sent t s) (plan_items (loads_of us) ps)
carries-busy us ps gs t s h =
    let xs = plan_items (loads_of us) ps in
    same-bool (list_any (goes t s) gs) (list_any (is_sent t s) xs)
    (group-item t s gs xs (λ i d l. goes-has us ps gs t s h i d l))
    (λ a. item-group t s gs xs a (all-items (λ n. times gs n ≡ 1) 0 us ps h.whole))
