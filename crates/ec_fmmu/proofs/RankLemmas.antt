-- Of lists that are apart, each number below their count is that of the lists before one of them.
use Rattle.std.proofs.Common.{◌≡◌, ℕ, zero, suc, ◌+◌, ◌<◌, ◌≤◌, Bool, true, false, cond, List, [], ◌∷◌, ◌++◌, length, map, take, drop, ◌-◌, count_by, All, AllPairs, refl, sym, ap, ◌∙◌, subst, inl, inr, arith}
use Rattle.std.specs.List.{range_with_len, list_any}
use Rattle.std.proofs.lemmas.Bool.{true≢false, false≢true, cond-true, cond-false, cases_Bool, or_cases, or_from, or_left, or_right, cases_order, false_from_ne_true}
use Rattle.std.proofs.lemmas.List.Sums.{sum_by-cons}
use Rattle.std.proofs.lemmas.List.Folds.{list_any-append}
use Rattle.ec_fmmu.specs.declared.seat.Seat.{Seat}
use Rattle.ec_fmmu.specs.Order.{is_before, is_same}
use Rattle.ec_fmmu.specs.Seats.{number, spot}
use Rattle.ec_fmmu.specs.Layout.{outputs, inputs, process_byte, seat_bytes, process_bytes, address_of, total_of}
use Rattle.ec_fmmu.specs.Addresses.{OrderIsByAddress, AddressesAreWithin, AddressesHaveNoGap, AddressesAreApart}
use Rattle.ec_fmmu.proofs.OrderLemmas.{before_first, before_next, before_self, before_on, before_apart, before-behind, same_is, same_self, compare_lists}
use Rattle.ec_fmmu.proofs.SumLemmas.{once}

-- how many of these lists stand before one
rank : List (List ℕ) → List ℕ → ℕ
rank xs b = count_by (λ a. is_before a b) xs

rank-cons : (x : List ℕ) (xs : List (List ℕ)) (b : List ℕ) → rank (x ∷ xs) b ≡ once (is_before x b) + rank xs b
unfolding rank
rank-cons x xs b = sum_by-cons (λ a. cond (is_before a b) 1 0) x xs

once_true : (p : Bool) → p ≡ true → once p ≡ 1
once_true p h = cond-true {A = ℕ} p 1 0 h

once_false : (p : Bool) → p ≡ false → once p ≡ 0
once_false p h = cond-false {A = ℕ} p 1 0 h

once_less : (p q : Bool) → (p ≡ true → q ≡ true) → once p ≤ once q
once_less p q h =
    elim (cases_Bool p) [
      | inl t ↦ let a = once_true p t in let b = once_true q (h t) in omega (arith, a, b)
      | inr f ↦ let a = once_false p f in omega (arith, a)
    ]

once_most : (p : Bool) → once p ≤ 1
once_most p =
    elim (cases_Bool p) [
      | inl t ↦ let a = once_true p t in omega (arith, a)
      | inr f ↦ let a = once_false p f in omega (arith, a)
    ]

-- before a later list stand no fewer
rank-grows : (xs : List (List ℕ)) (a b : List ℕ) → is_before a b ≡ true → rank xs a ≤ rank xs b
unfolding rank
rank-grows [] a b h = omega arith
rank-grows (x ∷ xs) a b h =
    omega (arith, rank-cons x xs a, rank-cons x xs b, once_less (is_before x a) (is_before x b) (λ k. before_on x a b k h), rank-grows xs a b h)

-- and one more, where the earlier one is among them
rank-rises : (xs : List (List ℕ)) (a b : List ℕ) → list_any (is_same a) xs ≡ true → is_before a b ≡ true → rank xs a < rank xs b
rank-rises [] a b is h = absurd (false≢true is)
rank-rises (x ∷ xs) a b is h =
    elim (or_cases (is_same a x) (list_any (is_same a) xs) is) [
      | inl s ↦
          let here : is_before x a ≡ false = subst (λ w. is_before w a ≡ false) (same_is a x s) (before_self a) in
          let there : is_before x b ≡ true = subst (λ w. is_before w b ≡ true) (same_is a x s) h in
          omega (arith, rank-cons x xs a, rank-cons x xs b, once_false (is_before x a) here, once_true (is_before x b) there, rank-grows xs a b h)
      | inr r ↦ omega (arith, rank-cons x xs a, rank-cons x xs b, once_less (is_before x a) (is_before x b) (λ k. before_on x a b k h), rank-rises xs a b r h)
    ]

rank-most : (xs : List (List ℕ)) (b : List ℕ) → rank xs b ≤ length xs
unfolding rank
rank-most [] b = omega arith
rank-most (x ∷ xs) b = omega (arith, rank-cons x xs b, once_most (is_before x b), rank-most xs b)

rank-below : (xs : List (List ℕ)) (b : List ℕ) → list_any (is_same b) xs ≡ true → rank xs b < length xs
rank-below [] b is = absurd (false≢true is)
rank-below (x ∷ xs) b is =
    elim (or_cases (is_same b x) (list_any (is_same b) xs) is) [
      | inl s ↦
          let here : is_before x b ≡ false = subst (λ w. is_before w b ≡ false) (same_is b x s) (before_self b) in
          omega (arith, rank-cons x xs b, once_false (is_before x b) here, rank-most xs b)
      | inr r ↦ omega (arith, rank-cons x xs b, once_most (is_before x b), rank-below xs b r)
    ]

-- no list is there twice
Apart : List (List ℕ) → Type 0
Apart [] = Unit {0}
Apart (x ∷ xs) = (list_any (is_same x) xs ≡ false) × Apart xs

rank-onto : (xs : List (List ℕ)) → Apart xs → (n : ℕ) → n < length xs → (b : List ℕ) × (list_any (is_same b) xs ≡ true) × (rank xs b ≡ n)
unfolding Apart
rank-onto [] apart n l = absurd (omega (arith, l))
rank-onto (x ∷ xs) apart n l =
    elim (cases_order n (rank xs x)) [
      | inl e ↦ (x, or_left (is_same x x) (list_any (is_same x) xs) (same_self x), omega (arith, rank-cons x xs x, once_false (is_before x x) (before_self x), e))
      | inr o ↦ elim o [
        | inl less ↦
            let found = rank-onto xs apart.1 n (omega (arith, less, rank-most xs x)) in
            let not : is_before x found.0 ≡ false = false_from_ne_true (is_before x found.0) (λ h. absurd (omega (arith, rank-grows xs x found.0 h, found.2, less))) in
            (found.0, or_right (is_same found.0 x) (list_any (is_same found.0) xs) found.1, omega (arith, rank-cons x xs found.0, once_false (is_before x found.0) not, found.2))
        | inr more ↦
            let found = rank-onto xs apart.1 (n - 1) (omega (arith, l, more)) in
            elim (compare_lists x found.0) [
              | inl before ↦ (found.0, or_right (is_same found.0 x) (list_any (is_same found.0) xs) found.1, omega (arith, rank-cons x xs found.0, once_true (is_before x found.0) before, found.2, more))
              | inr other ↦ elim other [
                | inl e ↦ absurd (true≢false (sym (subst (λ w. list_any (is_same w) xs ≡ true) (sym e) found.1) ∙ apart.0))
                | inr behind ↦ absurd (omega (arith, rank-rises xs found.0 x found.1 behind, found.2, more))
              ]
            ]
      ]
    ]

-- ---- process bytes are apart

-- a list isn't among those that follow
none_later : (x : List ℕ) (f : ℕ → List ℕ) (a n : ℕ) → ((k : ℕ) → a ≤ k → is_same x (f k) ≡ false) → list_any (is_same x) (map f (range_with_len a n)) ≡ false
none_later x f a zero h = refl
none_later x f a (suc n) h =
    or_from (is_same x (f a)) (list_any (is_same x) (map f (range_with_len (a + 1) n))) (h a (omega arith)) (none_later x f (a + 1) n (λ k l. h k (omega (arith, l))))

apart_map : (f : ℕ → List ℕ) (a n : ℕ) → ((j k : ℕ) → j < k → is_same (f j) (f k) ≡ false) → Apart (map f (range_with_len a n))
unfolding Apart
apart_map f a zero h = tt
apart_map f a (suc n) h = (none_later (f a) f (a + 1) n (λ k l. h a k (omega (arith, l))), apart_map f (a + 1) n h)

-- none of the first is among the others
Others : List (List ℕ) → List (List ℕ) → Type 0
Others [] ys = Unit {0}
Others (x ∷ xs) ys = (list_any (is_same x) ys ≡ false) × Others xs ys

others_map : (f : ℕ → List ℕ) (a n : ℕ) (ys : List (List ℕ)) → ((k : ℕ) → list_any (is_same (f k)) ys ≡ false) → Others (map f (range_with_len a n)) ys
unfolding Others
others_map f a zero ys h = tt
others_map f a (suc n) ys h = (h a, others_map f (a + 1) n ys h)

others_append : (xs ws ys : List (List ℕ)) → Others xs ys → Others ws ys → Others (xs ++ ws) ys
unfolding Others
others_append [] ws ys p q = q
others_append (x ∷ xs) ws ys p q = (p.0, others_append xs ws ys p.1 q)

apart_append : (xs ys : List (List ℕ)) → Apart xs → Apart ys → Others xs ys → Apart (xs ++ ys)
unfolding Apart Others
apart_append [] ys p q o = q
apart_append (x ∷ xs) ys p q o =
    (list_any-append (is_same x) xs ys ∙ or_from (list_any (is_same x) xs) (list_any (is_same x) ys) p.0 o.0, apart_append xs ys p.1 q o.1)

-- of one slave
later_byte : (s : Seat) (side j k : ℕ) → j < k → is_same (process_byte s side j) (process_byte s side k) ≡ false
later_byte s side j k l =
    before_apart (process_byte s side j) (process_byte s side k)
    (before-behind (spot s) (side ∷ j ∷ []) (side ∷ k ∷ []) ∙ before_next side side (j ∷ []) (k ∷ []) refl (before_first j k [] [] l))

input_byte : (s : Seat) (j k : ℕ) → is_same (process_byte s outputs j) (process_byte s inputs k) ≡ false
input_byte s j k =
    before_apart (process_byte s outputs j) (process_byte s inputs k)
    (before-behind (spot s) (outputs ∷ j ∷ []) (inputs ∷ k ∷ []) ∙ before_first outputs inputs (j ∷ []) (k ∷ []) (omega arith))

seat_apart : (s : Seat) → Apart (seat_bytes s)
seat_apart s =
    apart_append (map (process_byte s outputs) (range_with_len 0 s.out_bytes)) (map (process_byte s inputs) (range_with_len 0 s.in_bytes))
    (apart_map (process_byte s outputs) 0 s.out_bytes (later_byte s outputs)) (apart_map (process_byte s inputs) 0 s.in_bytes (later_byte s inputs))
    (others_map (process_byte s outputs) 0 s.out_bytes (map (process_byte s inputs) (range_with_len 0 s.in_bytes)) (λ j. none_later (process_byte s outputs j) (process_byte s inputs) 0 s.in_bytes (λ k l. input_byte s j k)))

-- and of a slave before others in the file
other_byte : (s t : Seat) (d e j k : ℕ) → is_before (number s) (number t) ≡ true → is_same (process_byte s d j) (process_byte t e k) ≡ false
other_byte s t d e j k h =
    false_from_ne_true (is_same (process_byte s d j) (process_byte t e k)) (λ same.
    let one : number s ≡ number t = ap (λ w. take 2 (drop 3 w)) (same_is (process_byte s d j) (process_byte t e k) same) in
    true≢false (sym h ∙ subst (λ w. is_before (number s) w ≡ false) one (before_self (number s))))

other_seat : (s t : Seat) (d j : ℕ) → is_before (number s) (number t) ≡ true → list_any (is_same (process_byte s d j)) (seat_bytes t) ≡ false
other_seat s t d j h =
    list_any-append (is_same (process_byte s d j)) (map (process_byte t outputs) (range_with_len 0 t.out_bytes)) (map (process_byte t inputs) (range_with_len 0 t.in_bytes))
    ∙ or_from _ _ (none_later (process_byte s d j) (process_byte t outputs) 0 t.out_bytes (λ k l. other_byte s t d outputs j k h))
    (none_later (process_byte s d j) (process_byte t inputs) 0 t.in_bytes (λ k l. other_byte s t d inputs j k h))

abbrev Later : Seat → List Seat → Type 0
Later s seats = All (λ t. is_before (number s) (number t) ≡ true) seats

none_other : (s : Seat) (seats : List Seat) (d j : ℕ) → Later s seats → list_any (is_same (process_byte s d j)) (process_bytes seats) ≡ false
none_other s [] d j h = refl
none_other s (t ∷ ts) d j h =
    list_any-append (is_same (process_byte s d j)) (seat_bytes t) (process_bytes ts)
    ∙ or_from (list_any (is_same (process_byte s d j)) (seat_bytes t)) (list_any (is_same (process_byte s d j)) (process_bytes ts))
    (other_seat s t d j (h 0 t (omega arith))) (none_other s ts d j (λ k e l. h (suc k) e (omega (arith, l))))

bytes_apart : (seats : List Seat) → AllPairs (λ a b. is_before (number a) (number b) ≡ true) seats → Apart (process_bytes seats)
unfolding Apart
bytes_apart [] h = tt
bytes_apart (s ∷ ss) h =
    let later : Later s ss = λ k e l. h 0 (suc k) e (omega arith) (omega (arith, l)) in
    apart_append (seat_bytes s) (process_bytes ss) (seat_apart s) (bytes_apart ss (λ i j e l m. h (suc i) (suc j) e (omega (arith, l)) (omega (arith, m))))
    (others_append (map (process_byte s outputs) (range_with_len 0 s.out_bytes)) (map (process_byte s inputs) (range_with_len 0 s.in_bytes)) (process_bytes ss)
    (others_map (process_byte s outputs) 0 s.out_bytes (process_bytes ss) (λ j. none_other s ss outputs j later))
    (others_map (process_byte s inputs) 0 s.in_bytes (process_bytes ss) (λ j. none_other s ss inputs j later)))

-- ---- the laws

pub order_is : OrderIsByAddress
unfolding address_of rank
order_is seats a b is other = (
  λ h. omega (arith, rank-rises (process_bytes seats) a b is h),
  λ less. elim (compare_lists a b) [
    | inl before ↦ before
    | inr r ↦ elim r [
      | inl e ↦ absurd (omega (arith, less, ap (λ w. rank (process_bytes seats) w) e))
      | inr behind ↦ absurd (omega (arith, less, rank-grows (process_bytes seats) b a behind))
    ]
  ],
)

pub within_is : AddressesAreWithin
unfolding address_of total_of rank
within_is seats b is = (omega arith, omega (arith, rank-below (process_bytes seats) b is))

pub no_gap : AddressesHaveNoGap
unfolding address_of total_of rank
no_gap seats kept n l =
    let found = rank-onto (process_bytes seats) (bytes_apart seats kept.rising) n l in
    (found.0, found.1, omega (arith, found.2))

pub apart_is : AddressesAreApart
apart_is seats a b is other same =
    elim (compare_lists a b) [
      | inl before ↦ absurd (omega (arith, same, (order_is seats a b is other).0 before))
      | inr r ↦ elim r [
        | inl e ↦ e
        | inr behind ↦ absurd (omega (arith, same, (order_is seats b a other is).0 behind))
      ]
    ]
