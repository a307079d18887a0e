-- Slaves at their places have one layout, and so one text and one capture file.
use Rattle.std.proofs.Common.{◌≡◌, ◌⊎◌, ℕ, ◌+◌, ◌||◌, Bool, cond, zero-add, true, false, List, [], ◌∷◌, map, count_by, All, AllPairs, refl, sym, ap, ◌∙◌, subst, inl, inr, arith, suc}
use Rattle.std.specs.List.{list_any}
use Rattle.std.proofs.lemmas.Bool.{true≢false, false≢true, cases_Bool, or_cases, or_left, or_right}
use Rattle.std.proofs.lemmas.List.Sums.{sum_by-cons}
use Rattle.std.proofs.lemmas.List.Elements.{All-head, All-tail}
use Rattle.ec_units.specs.declared.slave.Place.{Place}
use Rattle.ec_units.specs.Views.{UnitsView}
use Rattle.ec_fmmu.specs.declared.group.Group.{Group}
use Rattle.ec_fmmu.specs.declared.seat.Seat.{Seat}
use Rattle.ec_fmmu.specs.declared.mapping.Mapping.{Mapping}
use Rattle.ec_fmmu.specs.Order.{is_before, is_same}
use Rattle.ec_fmmu.specs.Seats.{key_numbers}
use Rattle.ec_fmmu.specs.Layout.{group_numbers, address_of, bytes_in, counter_in, IsGroup, AreGroups}
use Rattle.ec_fmmu.specs.Mappings.{IsLayout}
use Rattle.ec_fmmu.proofs.OrderLemmas.{before_self, before_back, same_is, same_self}
use Rattle.ec_frame_text.specs.Lines.{IsFramesText, frames_text}
use Rattle.ec_frame_text.specs.Captures.{IsCapture, capture}

-- the first of a list in order, and the rest
pairs_head : {X : Type 0} (R : X → X → Type 0) (x : X) (xs : List X) → AllPairs R (x ∷ xs) → All (R x) xs
pairs_head R x xs h = λ k d l. h 0 (suc k) d (omega arith) (omega (arith, l))

pairs_tail : {X : Type 0} (R : X → X → Type 0) (x : X) (xs : List X) → AllPairs R (x ∷ xs) → AllPairs R xs
pairs_tail R x xs h = λ i j d a b. h (suc i) (suc j) d (omega (arith, a)) (omega (arith, b))

-- one of these groups has these numbers
abbrev found : List ℕ → List Group → Bool
found k gs = list_any (λ g. is_same (group_numbers g) k) gs

abbrev Before : Group → Group → Type 0
Before g h = is_before (group_numbers g) (group_numbers h) ≡ true

-- a group is what its numbers say
first_number : (a b c x y z : ℕ) → a ∷ b ∷ c ∷ [] ≡ x ∷ y ∷ z ∷ [] → a ≡ x
first_number a b c x y z e = cc

second_number : (a b c x y z : ℕ) → a ∷ b ∷ c ∷ [] ≡ x ∷ y ∷ z ∷ [] → b ≡ y
second_number a b c x y z e = cc

third_number : (a b c x y z : ℕ) → a ∷ b ∷ c ∷ [] ≡ x ∷ y ∷ z ∷ [] → c ≡ z
third_number a b c x y z e = cc

group_once : (seats : List Seat) (g h : Group) → IsGroup seats g → IsGroup seats h → group_numbers g ≡ group_numbers h → g ≡ h
group_once seats g h p q e =
    let slot : g.slot ≡ h.slot = first_number g.slot g.period g.phase h.slot h.period h.phase e in
    let period : g.period ≡ h.period = second_number g.slot g.period g.phase h.slot h.period h.phase e in
    let phase : g.phase ≡ h.phase = third_number g.slot g.period g.phase h.slot h.period h.phase e in
    let start : g.start ≡ h.start = p.start ∙ ap (address_of seats) e ∙ sym q.start in
    let len : g.len ≡ h.len = p.len ∙ ap (bytes_in seats) e ∙ sym q.len in
    let counter : g.counter ≡ h.counter = p.counter ∙ ap (counter_in seats) e ∙ sym q.counter in
    (λ i. record { slot = slot i; period = period i; phase = phase i; start = start i; len = len i; counter = counter i })

-- a group's numbers are those of a slave
found_seat : (seats : List Seat) (k : List ℕ) (gs : List Group) → All (IsGroup seats) gs → found k gs ≡ true → list_any (λ s. is_same (key_numbers s.key) k) seats ≡ true
found_seat seats k [] each h = absurd (false≢true h)
found_seat seats k (g ∷ gs) each h =
    elim (or_cases (is_same (group_numbers g) k) (found k gs) h) [
      | inl a ↦ subst (λ n. list_any (λ s. is_same (key_numbers s.key) n) seats ≡ true) (same_is (group_numbers g) k a) (All-head (IsGroup seats) g gs each).found
      | inr b ↦ found_seat seats k gs (All-tail (IsGroup seats) g gs each) b
    ]

-- and each slave's are those of a group
counted_found : (p : Group → Bool) (gs : List Group) → count_by p gs ≡ 1 → list_any p gs ≡ true
counted_found p [] h = absurd (omega (arith, h))
counted_found p (g ∷ gs) h =
    elim (cases_Bool (p g)) [
      | inl a ↦ or_left (p g) (list_any p gs) a
      | inr b ↦
          let e : count_by p (g ∷ gs) ≡ count_by p gs = sum_by-cons (λ g. cond (p g) 1 0) g gs ∙ ap (λ w. cond w 1 0 + count_by p gs) b ∙ zero-add (count_by p gs) in
          or_right (p g) (list_any p gs) (counted_found p gs (sym e ∙ h))
    ]

seat_found : (k : List ℕ) (seats : List Seat) (hs : List Group) → All (λ s. count_by (λ g. is_same (group_numbers g) (key_numbers s.key)) hs ≡ 1) seats → list_any (λ s. is_same (key_numbers s.key) k) seats ≡ true → found k hs ≡ true
seat_found k [] hs whole h = absurd (false≢true h)
seat_found k (s ∷ ss) hs whole h =
    let P : Seat → Type 0 = λ s. count_by (λ g. is_same (group_numbers g) (key_numbers s.key)) hs ≡ 1 in
    elim (or_cases (is_same (key_numbers s.key) k) (list_any (λ s. is_same (key_numbers s.key) k) ss) h) [
      | inl a ↦ subst (λ n. found n hs ≡ true) (same_is (key_numbers s.key) k a) (counted_found (λ g. is_same (group_numbers g) (key_numbers s.key)) hs (All-head P s ss whole))
      | inr b ↦ seat_found k ss hs (All-tail P s ss whole) b
    ]

-- what stands behind a group is behind it
found_behind : (g : Group) (k : List ℕ) (gs : List Group) → All (Before g) gs → found k gs ≡ true → is_before (group_numbers g) k ≡ true
found_behind g k [] all h = absurd (false≢true h)
found_behind g k (x ∷ xs) all h =
    elim (or_cases (is_same (group_numbers x) k) (found k xs) h) [
      | inl a ↦ subst (λ n. is_before (group_numbers g) n ≡ true) (same_is (group_numbers x) k a) (All-head (Before g) x xs all)
      | inr b ↦ found_behind g k xs (All-tail (Before g) x xs all) b
    ]

-- groups of the same numbers have the same first one
heads_same : (g h : Group) (gs hs : List Group) → All (Before g) gs → All (Before h) hs → found (group_numbers g) (h ∷ hs) ≡ true → found (group_numbers h) (g ∷ gs) ≡ true → group_numbers g ≡ group_numbers h
heads_same g h gs hs p q there back =
    elim (or_cases (is_same (group_numbers h) (group_numbers g)) (found (group_numbers g) hs) there) [
      | inl a ↦ sym (same_is (group_numbers h) (group_numbers g) a)
      | inr b ↦ elim (or_cases (is_same (group_numbers g) (group_numbers h)) (found (group_numbers h) gs) back) [
        | inl a ↦ same_is (group_numbers g) (group_numbers h) a
        | inr d ↦
            let one = found_behind h (group_numbers g) hs q b in
            let other = before_back (group_numbers g) (group_numbers h) (found_behind g (group_numbers h) gs p d) in
            absurd (true≢false (sym one ∙ other))
      ]
    ]

tails_same : (g h : Group) (gs hs : List Group) (k : List ℕ) → group_numbers g ≡ group_numbers h → All (Before g) gs → (found k (g ∷ gs) ≡ true → found k (h ∷ hs) ≡ true) → found k gs ≡ true → found k hs ≡ true
tails_same g h gs hs k e p there at =
    elim (or_cases (is_same (group_numbers h) k) (found k hs) (there (or_right (is_same (group_numbers g) k) (found k gs) at))) [
      | inl a ↦
          let is : group_numbers g ≡ k = e ∙ same_is (group_numbers h) k a in
          let behind : is_before k k ≡ true = subst (λ n. is_before n k ≡ true) is (found_behind g k gs p at) in
          absurd (true≢false (sym behind ∙ before_self k))
      | inr b ↦ b
    ]

own_found : (g : Group) (gs : List Group) → found (group_numbers g) (g ∷ gs) ≡ true
own_found g gs = or_left (is_same (group_numbers g) (group_numbers g)) (found (group_numbers g) gs) (same_self (group_numbers g))

sorted_once : (seats : List Seat) (gs hs : List Group) → All (IsGroup seats) gs → All (IsGroup seats) hs → AllPairs Before gs → AllPairs Before hs
    → ((k : List ℕ) → found k gs ≡ true → found k hs ≡ true) → ((k : List ℕ) → found k hs ≡ true → found k gs ≡ true) → gs ≡ hs
sorted_once seats [] [] a b p q there back = refl
sorted_once seats [] (h ∷ hs) a b p q there back = absurd (false≢true (back (group_numbers h) (own_found h hs)))
sorted_once seats (g ∷ gs) [] a b p q there back = absurd (false≢true (there (group_numbers g) (own_found g gs)))
sorted_once seats (g ∷ gs) (h ∷ hs) a b p q there back =
    let gp = pairs_head Before g gs p in
    let hp = pairs_head Before h hs q in
    let e : group_numbers g ≡ group_numbers h = heads_same g h gs hs gp hp (there (group_numbers g) (own_found g gs)) (back (group_numbers h) (own_found h hs)) in
    let one : g ≡ h = group_once seats g h (All-head (IsGroup seats) g gs a) (All-head (IsGroup seats) h hs b) e in
    let rest : gs ≡ hs =
    sorted_once seats gs hs (All-tail (IsGroup seats) g gs a) (All-tail (IsGroup seats) h hs b) (pairs_tail Before g gs p) (pairs_tail Before h hs q)
    (λ k at. tails_same g h gs hs k e gp (there k) at) (λ k at. tails_same h g hs gs k (sym e) hp (back k) at) in
    (λ i. one i ∷ rest i)

groups_once : (seats : List Seat) (gs hs : List Group) → AreGroups seats gs → AreGroups seats hs → gs ≡ hs
groups_once seats gs hs a b =
    sorted_once seats gs hs a.each b.each a.ordered b.ordered
    (λ k h. seat_found k seats hs b.whole (found_seat seats k gs a.each h)) (λ k h. seat_found k seats gs a.whole (found_seat seats k hs b.each h))

pub layout_once : (seats : List Seat) (m w : Mapping) → IsLayout seats m → IsLayout seats w → m ≡ w
layout_once seats m w a b =
    let groups : m.groups ≡ w.groups = groups_once seats m.groups w.groups a.groups b.groups in
    let fmmus : m.fmmus ≡ w.fmmus = a.fmmus ∙ sym b.fmmus in
    let total : m.total ≡ w.total = a.total ∙ sym b.total in
    (λ i. record { groups = groups i; fmmus = fmmus i; total = total i })

pub frames_once : (v : UnitsView) (places : List Place) (a b : List ℕ) → IsFramesText v places a → IsFramesText v places b → a ≡ b
frames_once v places a b p q = p.lines ∙ ap (frames_text v) (layout_once _ p.mapping q.mapping p.layout q.layout) ∙ sym q.lines

pub capture_once : (v : UnitsView) (places : List Place) (a b : List ℕ) → IsCapture v places a → IsCapture v places b → a ≡ b
capture_once v places a b p q = p.frames ∙ ap (capture v) (layout_once _ p.mapping q.mapping p.layout q.layout) ∙ sym q.frames
