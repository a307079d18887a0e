-- The process bytes of a slave lie within its group, and apart from every other group.
-- The end of a group is an address: of the numbers slot, period and phase + 1 (`group-end`). So a slave's bytes lie
-- within its group, before it or behind it, by the order of lists alone (`side-lies`, with `address-grows`).
use Rattle.std.proofs.Common.{◌≡◌, ◌⊎◌, inl, inr, ℕ, suc, ◌+◌, ◌<◌, ◌≤◌, ◌==◌, ◌&&◌, ◌||◌, nat_lt, Bool, true, false, cond, List, [], ◌∷◌, length, get_or, sum_by, All, refl, sym, ap, ◌∙◌, subst, arith}
use Rattle.std.proofs.lemmas.Bool.{true≢false, false≢true, cases_Bool, cases_lt, cond-true, cond-false, or_cases, and_parts, ltb-true, eqb-true}
use Rattle.std.proofs.lemmas.List.{get_or_default}
use Rattle.ec_fmmu.specs.declared.seat.Seat.{Seat}
use Rattle.ec_fmmu.specs.declared.group.Group.{Group}
use Rattle.ec_fmmu.specs.Order.{is_before, is_same}
use Rattle.ec_fmmu.specs.Seats.{key_numbers, size, AreKept}
use Rattle.ec_fmmu.specs.Layout.{outputs, inputs, process_byte, process_bytes, address_of, bytes_in, group_numbers, IsGroup}
use Rattle.ec_fmmu.proofs.OrderLemmas.{before_first, before_next, before_on, compare_lists, same_is, same_self, before_apart, apart_before}
use Rattle.ec_fmmu.proofs.SumLemmas.{sum-agree, sum-add, sum-filter, sum-less}
use Rattle.ec_fmmu.proofs.AddressLemmas.{address-group, bytes-group, address-output, address-input}

-- ---- a later list has no lower address

less-part : (p q : Bool) → (p ≡ true → q ≡ true) → cond p 1 0 ≤ cond q 1 0
less-part p q h =
    elim (cases_Bool p) [
      | inl t ↦ let a = cond-true {A = ℕ} p 1 0 t in let b = cond-true {A = ℕ} q 1 0 (h t) in omega (arith, a, b)
      | inr f ↦ let a = cond-false {A = ℕ} p 1 0 f in omega (arith, a)
    ]

pub address-grows : (seats : List Seat) (a b : List ℕ) → is_before a b ≡ true → address_of seats a ≤ address_of seats b
unfolding address_of
address-grows seats a b h =
    let xs = process_bytes seats in
    let c = sum-less (λ x. cond (is_before x a) 1 0) (λ x. cond (is_before x b) 1 0) xs (λ i d l. less-part (is_before (get_or xs i d) a) (is_before (get_or xs i d) b) (λ t. before_on (get_or xs i d) a b t h)) in
    omega (arith, c)

-- ---- the end of a group

-- what puts one before the other: the first numbers, or these are one and the rest
first-case : (x y : ℕ) (xs ys : List ℕ) → is_before (x ∷ xs) (y ∷ ys) ≡ true → (x < y) ⊎ ((x ≡ y) × (is_before xs ys ≡ true))
first-case x y xs ys h =
    elim (or_cases (nat_lt x y) ((x == y) && is_before xs ys) h) [
      | inl a ↦ inl (ltb-true x y a)
      | inr b ↦ let p = and_parts (x == y) (is_before xs ys) b in inr (eqb-true x y p.0, p.1)
    ]

-- what puts three numbers before three others
three-cases : (a b c x y z : ℕ) → is_before (a ∷ b ∷ c ∷ []) (x ∷ y ∷ z ∷ []) ≡ true → (a < x) ⊎ (((a ≡ x) × (b < y)) ⊎ ((a ≡ x) × (b ≡ y) × (c < z)))
three-cases a b c x y z h =
    elim (first-case a x (b ∷ c ∷ []) (y ∷ z ∷ []) h) [
      | inl l ↦ inl l
      | inr p ↦ elim (first-case b y (c ∷ []) (z ∷ []) p.1) [
        | inl l ↦ inr (inl (p.0, l))
        | inr q ↦ elim (first-case c z [] [] q.1) [
          | inl l ↦ inr (inr (p.0, q.0, l))
          | inr r ↦ absurd (false≢true r.1)
        ]
      ]
    ]

by-first : (a b c x y z : ℕ) (us vs : List ℕ) → a < x → is_before (a ∷ b ∷ c ∷ us) (x ∷ y ∷ z ∷ vs) ≡ true
by-first a b c x y z us vs l = before_first a x (b ∷ c ∷ us) (y ∷ z ∷ vs) l

by-second : (a b c x y z : ℕ) (us vs : List ℕ) → a ≡ x → b < y → is_before (a ∷ b ∷ c ∷ us) (x ∷ y ∷ z ∷ vs) ≡ true
by-second a b c x y z us vs e l = before_next a x (b ∷ c ∷ us) (y ∷ z ∷ vs) e (before_first b y (c ∷ us) (z ∷ vs) l)

by-third : (a b c x y z : ℕ) (us vs : List ℕ) → a ≡ x → b ≡ y → c < z → is_before (a ∷ b ∷ c ∷ us) (x ∷ y ∷ z ∷ vs) ≡ true
by-third a b c x y z us vs e f l = before_next a x (b ∷ c ∷ us) (y ∷ z ∷ vs) e (before_next b y (c ∷ us) (z ∷ vs) f (before_first c z us vs l))

by-rest : (a b c x y z : ℕ) (us vs : List ℕ) → a ≡ x → b ≡ y → c ≡ z → is_before us vs ≡ true → is_before (a ∷ b ∷ c ∷ us) (x ∷ y ∷ z ∷ vs) ≡ true
by-rest a b c x y z us vs e f g l = before_next a x (b ∷ c ∷ us) (y ∷ z ∷ vs) e (before_next b y (c ∷ us) (z ∷ vs) f (before_next c z us vs g l))

-- three numbers stand before those behind a group if they stand before its own or are these
below-next : (a b c x y z : ℕ) → is_before (a ∷ b ∷ c ∷ []) (x ∷ y ∷ suc z ∷ []) ≡ true → (is_before (a ∷ b ∷ c ∷ []) (x ∷ y ∷ z ∷ []) ≡ true) ⊎ (is_same (a ∷ b ∷ c ∷ []) (x ∷ y ∷ z ∷ []) ≡ true)
below-next a b c x y z h =
    elim (three-cases a b c x y (suc z) h) [
      | inl l ↦ inl (by-first a b c x y z [] [] l)
      | inr r ↦ elim r [
        | inl p ↦ inl (by-second a b c x y z [] [] p.0 p.1)
        | inr q ↦ elim (cases_lt c z) [
          | inl l ↦ inl (by-third a b c x y z [] [] q.0 q.1 l)
          | inr g ↦ let e : c ≡ z = omega (arith, q.2, g) in inr (subst (λ w. is_same (a ∷ b ∷ c ∷ []) w ≡ true) (λ i. q.0 i ∷ q.1 i ∷ e i ∷ []) (same_self (a ∷ b ∷ c ∷ [])))
        ]
      ]
    ]

next-below : (x y z : ℕ) → is_before (x ∷ y ∷ z ∷ []) (x ∷ y ∷ suc z ∷ []) ≡ true
next-below x y z = by-third x y z x y (suc z) [] [] refl refl (omega arith)

or-of : (b s p : Bool) → (b ≡ true → p ≡ true) → (s ≡ true → p ≡ true) → (p ≡ true → (b ≡ true) ⊎ (s ≡ true)) → p ≡ (b || s)
or-of true s p f g h = f refl
or-of false true p f g h = g refl
or-of false false true f g h = elim (h refl) [ inl t ↦ absurd (false≢true t) | inr t ↦ absurd (false≢true t) ]
or-of false false false f g h = refl

cond-or : (b s : Bool) (n : ℕ) → (b ≡ true → s ≡ false) → cond (b || s) n 0 ≡ cond b n 0 + cond s n 0
cond-or true true n h = absurd (true≢false (h refl))
cond-or true false n h = omega arith
cond-or false s n h = omega arith

next-is : (a b c x y z : ℕ) → is_before (a ∷ b ∷ c ∷ []) (x ∷ y ∷ suc z ∷ []) ≡ (is_before (a ∷ b ∷ c ∷ []) (x ∷ y ∷ z ∷ []) || is_same (a ∷ b ∷ c ∷ []) (x ∷ y ∷ z ∷ []))
next-is a b c x y z =
    or-of _ _ _
    (λ t. before_on (a ∷ b ∷ c ∷ []) (x ∷ y ∷ z ∷ []) (x ∷ y ∷ suc z ∷ []) t (next-below x y z))
    (λ t. subst (λ w. is_before w (x ∷ y ∷ suc z ∷ []) ≡ true) (sym (same_is (a ∷ b ∷ c ∷ []) (x ∷ y ∷ z ∷ []) t)) (next-below x y z))
    (below-next a b c x y z)

next-part : (x y z : ℕ) (s : Seat) → cond (is_before (key_numbers s.key) (x ∷ y ∷ suc z ∷ [])) (size s) 0
    ≡ cond (is_before (key_numbers s.key) (x ∷ y ∷ z ∷ [])) (size s) 0 + cond (is_same (key_numbers s.key) (x ∷ y ∷ z ∷ [])) (size s) 0
next-part x y z s =
    ap (λ b. cond b (size s) 0) (next-is s.key.slot s.key.period s.key.phase x y z)
    ∙ cond-or (is_before (key_numbers s.key) (x ∷ y ∷ z ∷ [])) (is_same (key_numbers s.key) (x ∷ y ∷ z ∷ [])) (size s) (before_apart (key_numbers s.key) (x ∷ y ∷ z ∷ []))

-- a group ends where what stands behind it begins
group-end : (seats : List Seat) (x y z : ℕ) → address_of seats (x ∷ y ∷ suc z ∷ []) ≡ address_of seats (x ∷ y ∷ z ∷ []) + bytes_in seats (x ∷ y ∷ z ∷ [])
group-end seats x y z =
    let before = λ (s : Seat). is_before (key_numbers s.key) (x ∷ y ∷ z ∷ []) in
    let same = λ (s : Seat). is_same (key_numbers s.key) (x ∷ y ∷ z ∷ []) in
    let next = λ (s : Seat). is_before (key_numbers s.key) (x ∷ y ∷ suc z ∷ []) in
    let a = address-group seats x y (suc z) in
    let b = address-group seats x y z in
    let c = bytes-group seats x y z in
    let fa = sum-filter size next seats in
    let fb = sum-filter size before seats in
    let fc = sum-filter size same seats in
    let parts : sum_by (λ s. cond (next s) (size s) 0) seats ≡ sum_by (λ s. cond (before s) (size s) 0) seats + sum_by (λ s. cond (same s) (size s) 0) seats =
    sum-agree (λ s. cond (next s) (size s) 0) (λ s. cond (before s) (size s) 0 + cond (same s) (size s) 0) seats (λ i d l. next-part x y z (get_or seats i d))
    ∙ sum-add (λ s. cond (before s) (size s) 0) (λ s. cond (same s) (size s) 0) seats in
    omega (arith, a, b, c, fa, fb, fc, parts)

-- ---- the bytes of a slave

-- where the bytes of one side of a slave lie, beside a group: within it if the slave is in it, before it or behind it else
abbrev pub Lies : Bool → ℕ → ℕ → ℕ → ℕ → Type 0
Lies true start len from to = (start ≤ from) × (to ≤ start + len)
Lies false start len from to = (to ≤ start) ⊎ (start + len ≤ from)

side-lies : (seats : List Seat) (g : Group) (s : Seat) (side last : ℕ) → IsGroup seats g →
    Lies (is_same (key_numbers s.key) (group_numbers g)) g.start g.len (address_of seats (process_byte s side 0)) (address_of seats (process_byte s side last))
side-lies seats g s side last h =
    let n = group_numbers g in
    let k = key_numbers s.key in
    let first = process_byte s side 0 in
    let end = process_byte s side last in
    let start = h.start in
    let whole : address_of seats (g.slot ∷ g.period ∷ suc g.phase ∷ []) ≡ g.start + g.len =
    let e = group-end seats g.slot g.period g.phase in let l = h.len in omega (arith, e, l, start) in
    elim (compare_lists k n) [
      | inl b ↦
          let low : address_of seats end ≤ g.start = let c = address-grows seats end n (early s g side last b) in omega (arith, c, start) in
          subst (λ w. Lies w g.start g.len (address_of seats first) (address_of seats end)) (sym (before_apart k n b)) (inl low)
      | inr r ↦ elim r [
        | inl e ↦
            let t : is_same k n ≡ true = subst (λ w. is_same k w ≡ true) e (same_self k) in
            let low : g.start ≤ address_of seats first = let c = address-grows seats n first (inside s g side e) in omega (arith, c, start) in
            let high : address_of seats end ≤ g.start + g.len = let c = address-grows seats end (g.slot ∷ g.period ∷ suc g.phase ∷ []) (ending s g side last e) in omega (arith, c, whole) in
            subst (λ w. Lies w g.start g.len (address_of seats first) (address_of seats end)) (sym t) (low, high)
        | inr a ↦
            let high : g.start + g.len ≤ address_of seats first = let c = address-grows seats (g.slot ∷ g.period ∷ suc g.phase ∷ []) first (late s g side a) in omega (arith, c, whole) in
            subst (λ w. Lies w g.start g.len (address_of seats first) (address_of seats end)) (sym (apart_before n k a)) (inr high)
      ]
    ]
  where
    early : (s : Seat) (g : Group) (side last : ℕ) → is_before (key_numbers s.key) (group_numbers g) ≡ true → is_before (process_byte s side last) (group_numbers g) ≡ true
    early s g side last b =
        let k = s.key in
        elim (three-cases k.slot k.period k.phase g.slot g.period g.phase b) [
          | inl l ↦ by-first k.slot k.period k.phase g.slot g.period g.phase (s.unit ∷ s.slave ∷ side ∷ last ∷ []) [] l
          | inr r ↦ elim r [
            | inl p ↦ by-second k.slot k.period k.phase g.slot g.period g.phase (s.unit ∷ s.slave ∷ side ∷ last ∷ []) [] p.0 p.1
            | inr q ↦ by-third k.slot k.period k.phase g.slot g.period g.phase (s.unit ∷ s.slave ∷ side ∷ last ∷ []) [] q.0 q.1 q.2
          ]
        ]

    inside : (s : Seat) (g : Group) (side : ℕ) → key_numbers s.key ≡ group_numbers g → is_before (group_numbers g) (process_byte s side 0) ≡ true
    inside s g side e =
        let k = s.key in
        by-rest g.slot g.period g.phase k.slot k.period k.phase [] (s.unit ∷ s.slave ∷ side ∷ 0 ∷ []) (ap (λ w. get_or w 0 0) (sym e)) (ap (λ w. get_or w 1 0) (sym e)) (ap (λ w. get_or w 2 0) (sym e)) refl

    ending : (s : Seat) (g : Group) (side last : ℕ) → key_numbers s.key ≡ group_numbers g → is_before (process_byte s side last) (g.slot ∷ g.period ∷ suc g.phase ∷ []) ≡ true
    ending s g side last e =
        let k = s.key in
        let z : k.phase ≡ g.phase = ap (λ w. get_or w 2 0) e in
        by-third k.slot k.period k.phase g.slot g.period (suc g.phase) (s.unit ∷ s.slave ∷ side ∷ last ∷ []) [] (ap (λ w. get_or w 0 0) e) (ap (λ w. get_or w 1 0) e) (omega (arith, z))

    late : (s : Seat) (g : Group) (side : ℕ) → is_before (group_numbers g) (key_numbers s.key) ≡ true → is_before (g.slot ∷ g.period ∷ suc g.phase ∷ []) (process_byte s side 0) ≡ true
    late s g side a =
        let k = s.key in
        let rest : List ℕ = s.unit ∷ s.slave ∷ side ∷ 0 ∷ [] in
        elim (three-cases g.slot g.period g.phase k.slot k.period k.phase a) [
          | inl l ↦ by-first g.slot g.period (suc g.phase) k.slot k.period k.phase [] rest l
          | inr r ↦ elim r [
            | inl p ↦ by-second g.slot g.period (suc g.phase) k.slot k.period k.phase [] rest p.0 p.1
            | inr q ↦ elim (cases_lt (suc g.phase) k.phase) [
              | inl l ↦ by-third g.slot g.period (suc g.phase) k.slot k.period k.phase [] rest q.0 q.1 l
              | inr n ↦ by-rest g.slot g.period (suc g.phase) k.slot k.period k.phase [] rest q.0 q.1 (let z : suc g.phase ≡ k.phase = omega (arith, n, q.2) in z) refl
            ]
          ]
        ]

-- a slave of these, by its place among them
abbrev pub IsOne : List Seat → Seat → Type 0
IsOne seats s = (i : ℕ) × (i < length seats) × (s ≡ get_or seats i s)

pub all-ones : (seats : List Seat) → All (IsOne seats) seats
all-ones seats = λ i d l. (i, l, get_or_default seats i d (get_or seats i d) l)

pub outputs-lie : (seats : List Seat) (g : Group) (s : Seat) → AreKept seats → IsOne seats s → IsGroup seats g →
    Lies (is_same (key_numbers s.key) (group_numbers g)) g.start g.len (address_of seats (process_byte s outputs 0)) (address_of seats (process_byte s outputs 0) + s.out_bytes)
outputs-lie seats g s kept one h =
    let a = address-output seats s one.0 0 one.1 one.2 kept.rising (omega arith) in
    let b = address-output seats s one.0 s.out_bytes one.1 one.2 kept.rising (omega arith) in
    subst (Lies (is_same (key_numbers s.key) (group_numbers g)) g.start g.len (address_of seats (process_byte s outputs 0))) (omega (arith, a, b)) (side-lies seats g s outputs s.out_bytes h)

pub inputs-lie : (seats : List Seat) (g : Group) (s : Seat) → AreKept seats → IsOne seats s → IsGroup seats g →
    Lies (is_same (key_numbers s.key) (group_numbers g)) g.start g.len (address_of seats (process_byte s inputs 0)) (address_of seats (process_byte s inputs 0) + s.in_bytes)
inputs-lie seats g s kept one h =
    let a = address-input seats s one.0 0 one.1 one.2 kept.rising (omega arith) in
    let b = address-input seats s one.0 s.in_bytes one.1 one.2 kept.rising (omega arith) in
    subst (Lies (is_same (key_numbers s.key) (group_numbers g)) g.start g.len (address_of seats (process_byte s inputs 0))) (omega (arith, a, b)) (side-lies seats g s inputs s.in_bytes h)
