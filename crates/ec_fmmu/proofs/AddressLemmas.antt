-- Addresses as sums: what stands before a byte, slave by slave.
use Rattle.std.proofs.Common.{◌≡◌, ℕ, zero, suc, ◌+◌, ◌<◌, ◌≤◌, ◌==◌, ◌&&◌, ◌||◌, nat_lt, Bool, true, false, cond, List, [], ◌∷◌, length, length-append, map, filter, take, drop, get_or, sum_by, count_by, AllPairs, refl, sym, ap, ◌∙◌, subst, inl, inr, arith}
use Rattle.std.specs.List.{range_with_len}
use Rattle.std.proofs.lemmas.Bool.{cases_Bool, true≢false, cond-false, or_from, and_right, false_from_ne_true}
use Rattle.std.proofs.lemmas.List.Sums.{sum_by-cons, sum_by-append}
use Rattle.std.proofs.lemmas.List.Concat.{length-flat_map}
use Rattle.std.proofs.lemmas.List.FromFn.{length-map-range_with_len}
use Rattle.ec_fmmu.specs.declared.seat.Seat.{Seat}
use Rattle.ec_fmmu.specs.Order.{is_before, is_same}
use Rattle.ec_fmmu.specs.Seats.{key_numbers, spot, number, size}
use Rattle.ec_fmmu.specs.Layout.{outputs, inputs, process_byte, seat_bytes, process_bytes, address_of, total_of, bytes_in}
use Rattle.ec_fmmu.proofs.OrderLemmas.{before_apart, apart_before, same_is, same_self, before_self, before-apart, before-behind}
use Rattle.ec_fmmu.proofs.SumLemmas.{sum-agree, sum-filter, count-all, count-none, count-below, count-flat}

-- a test that all bytes of a slave pass or none does
seat-count : (p : List ℕ → Bool) (s : Seat) (b : Bool) → ((side k : ℕ) → p (process_byte s side k) ≡ b) → count_by p (seat_bytes s) ≡ cond b (size s) 0
seat-count p s true h =
    let e = sum_by-append (λ y. cond (p y) 1 0) (map (process_byte s outputs) (range_with_len 0 s.out_bytes)) (map (process_byte s inputs) (range_with_len 0 s.in_bytes)) in
    let a = count-all p (process_byte s outputs) 0 s.out_bytes (h outputs) in
    let b = count-all p (process_byte s inputs) 0 s.in_bytes (h inputs) in
    omega arith
seat-count p s false h =
    let e = sum_by-append (λ y. cond (p y) 1 0) (map (process_byte s outputs) (range_with_len 0 s.out_bytes)) (map (process_byte s inputs) (range_with_len 0 s.in_bytes)) in
    let a = count-none p (process_byte s outputs) 0 s.out_bytes (h outputs) in
    let b = count-none p (process_byte s inputs) 0 s.in_bytes (h inputs) in
    omega arith

-- the address of a group is that of what stands before it, group by group
pub address-group : (seats : List Seat) (a b c : ℕ) → address_of seats (a ∷ b ∷ c ∷ []) ≡ 65536 + sum_by size (filter (λ s. is_before (key_numbers s.key) (a ∷ b ∷ c ∷ [])) seats)
unfolding address_of
address-group seats a b c =
    let g = a ∷ b ∷ c ∷ [] in
    ap (λ w. 65536 + w) (
    count-flat (λ x. is_before x g) seat_bytes (λ s. cond (is_before (key_numbers s.key) g) (size s) 0) seats
    (λ k d l. seat-count (λ x. is_before x g) (get_or seats k d) (is_before (key_numbers (get_or seats k d).key) g) (λ side j. refl))
    ∙ sym (sum-filter size (λ s. is_before (key_numbers s.key) g) seats))

-- the bytes of a group are those of its slaves
pub bytes-group : (seats : List Seat) (a b c : ℕ) → bytes_in seats (a ∷ b ∷ c ∷ []) ≡ sum_by size (filter (λ s. is_same (key_numbers s.key) (a ∷ b ∷ c ∷ [])) seats)
unfolding bytes_in
bytes-group seats a b c =
    let g = a ∷ b ∷ c ∷ [] in
    count-flat (λ x. is_same (take 3 x) g) seat_bytes (λ s. cond (is_same (key_numbers s.key) g) (size s) 0) seats
    (λ k d l. seat-count (λ x. is_same (take 3 x) g) (get_or seats k d) (is_same (key_numbers (get_or seats k d).key) g) (λ side j. refl))
    ∙ sym (sum-filter size (λ s. is_same (key_numbers s.key) g) seats)

length-seat : (s : Seat) → length (seat_bytes s) ≡ size s
length-seat s =
    length-append (map (process_byte s outputs) (range_with_len 0 s.out_bytes)) (map (process_byte s inputs) (range_with_len 0 s.in_bytes))
    ∙ (λ i. length-map-range_with_len (process_byte s outputs) 0 s.out_bytes i + length-map-range_with_len (process_byte s inputs) 0 s.in_bytes i)

pub total-sum : (seats : List Seat) → total_of seats ≡ sum_by size seats
unfolding total_of
total-sum seats =
    length-flat_map seat_bytes seats
    ∙ sum-agree (λ s. length (seat_bytes s)) size seats (λ k d l. length-seat (get_or seats k d))

-- slaves with other numbers stand before a byte whole or not at all
number-apart : (y x : Seat) → is_same (number y) (number x) ≡ false → is_same (spot y) (spot x) ≡ false
number-apart y x h =
    false_from_ne_true (is_same (spot y) (spot x)) (λ s.
    true≢false (sym (subst (λ w. is_same (number y) (drop 3 w) ≡ true) (same_is (spot y) (spot x) s) (same_self (number y))) ∙ h))

-- what stands before slave x
abbrev pub before_it : Seat → Seat → Bool
before_it x s = is_before (spot s) (spot x)

seat-apart : (x y : Seat) (side k : ℕ) → is_same (number y) (number x) ≡ false → count_by (λ b. is_before b (process_byte x side k)) (seat_bytes y) ≡ cond (before_it x y) (size y) 0
seat-apart x y side k h =
    seat-count (λ b. is_before b (process_byte x side k)) y (before_it x y) (λ sd j. before-apart (spot y) (spot x) (sd ∷ j ∷ []) (side ∷ k ∷ []) refl (number-apart y x h))

-- of slaves in file order the i-th is x, which adds `own` by itself
abbrev Rises : List Seat → Type 0
Rises seats = AllPairs (λ a b. is_before (number a) (number b) ≡ true) seats

rises-tail : (y : Seat) (ys : List Seat) → Rises (y ∷ ys) → Rises ys
rises-tail y ys h = λ i j d l m. h (suc i) (suc j) d (omega arith) (omega arith)

rises-head : (y : Seat) (ys : List Seat) → Rises (y ∷ ys) → (j : ℕ) (d : Seat) → j < length ys → is_before (number y) (number (get_or ys j d)) ≡ true
rises-head y ys h j d l = h 0 (suc j) d (omega arith) (omega arith)

count-at : (x : Seat) (side k own : ℕ) → count_by (λ b. is_before b (process_byte x side k)) (seat_bytes x) ≡ own →
    (seats : List Seat) (i : ℕ) → i < length seats → x ≡ get_or seats i x → Rises seats →
    count_by (λ b. is_before b (process_byte x side k)) (process_bytes seats) ≡ sum_by (λ s. cond (before_it x s) (size s) 0) seats + own
count-at x side k own e [] i l is r = absurd (omega arith)
count-at x side k own e (y ∷ ys) zero l is r =
    let p = λ (b : List ℕ). is_before b (process_byte x side k) in
    let h = λ (s : Seat). cond (before_it x s) (size s) 0 in
    let here : count_by p (seat_bytes y) ≡ own = subst (λ w. count_by p (seat_bytes w) ≡ own) is e in
    let none : h y ≡ 0 = subst (λ w. cond (before_it x w) (size w) 0 ≡ 0) is (cond-false (before_it x x) (size x) 0 (before_self (spot x))) in
    let rest : count_by p (process_bytes ys) ≡ sum_by h ys =
    count-flat p seat_bytes h ys (λ j d m. seat-apart x (get_or ys j d) side k
    (apart_before (number x) (number (get_or ys j d)) (subst (λ w. is_before (number w) (number (get_or ys j d)) ≡ true) (sym is) (rises-head y ys r j d m)))) in
    let parts = sum_by-append (λ b. cond (p b) 1 0) (seat_bytes y) (process_bytes ys) in
    let whole = sum_by-cons h y ys in
    omega (arith, parts, whole, rest, none, here)
count-at x side k own e (y ∷ ys) (suc i) l is r =
    let p = λ (b : List ℕ). is_before b (process_byte x side k) in
    let h = λ (s : Seat). cond (before_it x s) (size s) 0 in
    let early : is_before (number y) (number x) ≡ true = subst (λ w. is_before (number y) (number w) ≡ true) (sym is) (rises-head y ys r i x (omega arith)) in
    let here : count_by p (seat_bytes y) ≡ h y = seat-apart x y side k (before_apart (number y) (number x) early) in
    let rest = count-at x side k own e ys i (omega arith) is (rises-tail y ys r) in
    let parts = sum_by-append (λ b. cond (p b) 1 0) (seat_bytes y) (process_bytes ys) in
    let whole = sum_by-cons h y ys in
    omega (arith, parts, whole, rest, here)

-- what x itself has before one of its outputs, and before one of its inputs
last-number : (k j : ℕ) → is_before (j ∷ []) (k ∷ []) ≡ nat_lt j k
last-number k j =
    elim (cases_Bool (nat_lt j k)) [
      | inl t ↦ ap (λ w. w || ((j == k) && false)) t ∙ sym t
      | inr n ↦ or_from (nat_lt j k) ((j == k) && false) n (and_right (j == k) false refl) ∙ sym n
    ]

own-outputs : (x : Seat) (k : ℕ) → k ≤ x.out_bytes → count_by (λ b. is_before b (process_byte x outputs k)) (seat_bytes x) ≡ k
own-outputs x k l =
    let p = λ (b : List ℕ). is_before b (process_byte x outputs k) in
    let e = sum_by-append (λ y. cond (p y) 1 0) (map (process_byte x outputs) (range_with_len 0 x.out_bytes)) (map (process_byte x inputs) (range_with_len 0 x.in_bytes)) in
    let a = count-below p (process_byte x outputs) k 0 x.out_bytes (λ j. before-behind (spot x) (0 ∷ j ∷ []) (0 ∷ k ∷ []) ∙ last-number k j) (omega arith) (omega arith) in
    let b = count-none p (process_byte x inputs) 0 x.in_bytes (λ j. before-behind (spot x) (1 ∷ j ∷ []) (0 ∷ k ∷ [])) in
    omega (arith, e, a, b)

own-inputs : (x : Seat) (k : ℕ) → k ≤ x.in_bytes → count_by (λ b. is_before b (process_byte x inputs k)) (seat_bytes x) ≡ x.out_bytes + k
own-inputs x k l =
    let p = λ (b : List ℕ). is_before b (process_byte x inputs k) in
    let e = sum_by-append (λ y. cond (p y) 1 0) (map (process_byte x outputs) (range_with_len 0 x.out_bytes)) (map (process_byte x inputs) (range_with_len 0 x.in_bytes)) in
    let a = count-all p (process_byte x outputs) 0 x.out_bytes (λ j. before-behind (spot x) (0 ∷ j ∷ []) (1 ∷ k ∷ [])) in
    let b = count-below p (process_byte x inputs) k 0 x.in_bytes (λ j. before-behind (spot x) (1 ∷ j ∷ []) (1 ∷ k ∷ []) ∙ last-number k j) (omega arith) (omega arith) in
    omega (arith, e, a, b)

-- the bytes of the slaves before x
abbrev pub ahead : List Seat → Seat → ℕ
ahead seats x = sum_by size (filter (before_it x) seats)

pub address-output : (seats : List Seat) (x : Seat) (i k : ℕ) → i < length seats → x ≡ get_or seats i x → Rises seats → k ≤ x.out_bytes →
    address_of seats (process_byte x outputs k) ≡ 65536 + ahead seats x + k
unfolding address_of
address-output seats x i k l is r within =
    let e = count-at x outputs k k (own-outputs x k within) seats i l is r in
    let f = sum-filter size (before_it x) seats in
    omega (arith, e, f)

pub address-input : (seats : List Seat) (x : Seat) (i k : ℕ) → i < length seats → x ≡ get_or seats i x → Rises seats → k ≤ x.in_bytes →
    address_of seats (process_byte x inputs k) ≡ 65536 + ahead seats x + x.out_bytes + k
unfolding address_of
address-input seats x i k l is r within =
    let e = count-at x inputs k (x.out_bytes + k) (own-inputs x k within) seats i l is r in
    let f = sum-filter size (before_it x) seats in
    omega (arith, e, f)
