-- Lists of numbers in order: no list stands before itself, one that stands before another stands before all that the other does, and of two one is first.
use Rattle.std.proofs.Common.{◌≡◌, ◌⊎◌, ℕ, ◌<◌, ◌==◌, ◌&&◌, ◌||◌, nat_lt, Bool, true, false, List, [], ◌∷◌, ◌++◌, length, refl, sym, ap, ◌∙◌, subst, inl, inr, arith}
use Rattle.std.proofs.lemmas.Bool.{true≢false, false≢true, and_parts, and_from, and_right, or_cases, or_from, or_left, or_right, cases_order, lt-ltb, le-ltb, ltb-true, eq-eqb, eqb-true, false_from_ne_true}
use Rattle.ec_fmmu.specs.Order.{is_before, is_same}

-- what puts one before the other: the first numbers, or these are one and the rest
before_cases : (x y : ℕ) (xs ys : List ℕ) → is_before (x ∷ xs) (y ∷ ys) ≡ true → (x < y) ⊎ ((x ≡ y) × (is_before xs ys ≡ true))
before_cases x y xs ys h =
    elim (or_cases (nat_lt x y) ((x == y) && is_before xs ys) h) [
      | inl a ↦ inl (ltb-true x y a)
      | inr b ↦ let p = and_parts (x == y) (is_before xs ys) b in inr (eqb-true x y p.0, p.1)
    ]

pub before_first : (x y : ℕ) (xs ys : List ℕ) → x < y → is_before (x ∷ xs) (y ∷ ys) ≡ true
before_first x y xs ys l = or_left (nat_lt x y) ((x == y) && is_before xs ys) (lt-ltb x y l)

pub before_next : (x y : ℕ) (xs ys : List ℕ) → x ≡ y → is_before xs ys ≡ true → is_before (x ∷ xs) (y ∷ ys) ≡ true
before_next x y xs ys e h = or_right (nat_lt x y) ((x == y) && is_before xs ys) (and_from (x == y) (is_before xs ys) (eq-eqb x y e) h)

pub before_self : (xs : List ℕ) → is_before xs xs ≡ false
before_self [] = refl
before_self (x ∷ xs) = or_from (nat_lt x x) ((x == x) && is_before xs xs) (le-ltb x x (omega arith)) (and_right (x == x) (is_before xs xs) (before_self xs))

pub before_on : (xs ys zs : List ℕ) → is_before xs ys ≡ true → is_before ys zs ≡ true → is_before xs zs ≡ true
before_on [] [] zs h k = absurd (false≢true h)
before_on [] (y ∷ ys) [] h k = absurd (false≢true k)
before_on [] (y ∷ ys) (z ∷ zs) h k = refl
before_on (x ∷ xs) [] zs h k = absurd (false≢true h)
before_on (x ∷ xs) (y ∷ ys) [] h k = absurd (false≢true k)
before_on (x ∷ xs) (y ∷ ys) (z ∷ zs) h k =
    elim (before_cases x y xs ys h) [
      | inl a ↦
          elim (before_cases y z ys zs k) [
            | inl b ↦ before_first x z xs zs (omega arith)
            | inr q ↦ let e = q.0 in before_first x z xs zs (omega arith)
          ]
      | inr p ↦
          elim (before_cases y z ys zs k) [
            | inl b ↦ let e = p.0 in before_first x z xs zs (omega arith)
            | inr q ↦ before_next x z xs zs (p.0 ∙ q.0) (before_on xs ys zs p.1 q.1)
          ]
    ]

pub before_back : (xs ys : List ℕ) → is_before xs ys ≡ true → is_before ys xs ≡ false
before_back xs ys h = false_from_ne_true (is_before ys xs) (λ k. false≢true (sym (before_self xs) ∙ before_on xs ys xs h k))

pub same_is : (xs ys : List ℕ) → is_same xs ys ≡ true → xs ≡ ys
same_is [] [] h = refl
same_is [] (y ∷ ys) h = absurd (false≢true h)
same_is (x ∷ xs) [] h = absurd (false≢true h)
same_is (x ∷ xs) (y ∷ ys) h =
    let p = and_parts (x == y) (is_same xs ys) h in
    λ i. eqb-true x y p.0 i ∷ same_is xs ys p.1 i

pub same_self : (xs : List ℕ) → is_same xs xs ≡ true
same_self [] = refl
same_self (x ∷ xs) = and_from (x == x) (is_same xs xs) (eq-eqb x x refl) (same_self xs)

-- one that stands before another isn't it
pub before_apart : (xs ys : List ℕ) → is_before xs ys ≡ true → is_same xs ys ≡ false
before_apart xs ys h =
    false_from_ne_true (is_same xs ys) (λ s. false≢true (sym (before_self ys) ∙ subst (λ w. is_before w ys ≡ true) (same_is xs ys s) h))

pub apart_before : (xs ys : List ℕ) → is_before xs ys ≡ true → is_same ys xs ≡ false
apart_before xs ys h =
    false_from_ne_true (is_same ys xs) (λ s. false≢true (sym (before_self ys) ∙ subst (λ w. is_before w ys ≡ true) (sym (same_is ys xs s)) h))

-- of two lists one is first, or they are one
pub compare_lists : (xs ys : List ℕ) → (is_before xs ys ≡ true) ⊎ ((xs ≡ ys) ⊎ (is_before ys xs ≡ true))
compare_lists [] [] = inr (inl refl)
compare_lists [] (y ∷ ys) = inl refl
compare_lists (x ∷ xs) [] = inr (inr refl)
compare_lists (x ∷ xs) (y ∷ ys) =
    elim (cases_order x y) [
      | inl e ↦
          elim (compare_lists xs ys) [
            | inl a ↦ inl (before_next x y xs ys e a)
            | inr r ↦
                elim r [
                  | inl s ↦ inr (inl (λ i. e i ∷ s i))
                  | inr b ↦ inr (inr (before_next y x ys xs (sym e) b))
                ]
          ]
      | inr o ↦
          elim o [
            | inl l ↦ inl (before_first x y xs ys l)
            | inr g ↦ inr (inr (before_first y x ys xs g))
          ]
    ]

-- what doesn't stand before is it or stands behind
pub not_before : (xs ys : List ℕ) → is_before xs ys ≡ false → (xs ≡ ys) ⊎ (is_before ys xs ≡ true)
not_before xs ys h =
    elim (compare_lists xs ys) [
      | inl a ↦ absurd (false≢true (sym h ∙ a))
      | inr r ↦ r
    ]

and_agree : (b x y : Bool) → (b ≡ true → x ≡ y) → (b && x) ≡ (b && y)
and_agree true x y h = h refl
and_agree false x y h = refl

-- where two fronts differ, what follows them doesn't count
pub before-apart : (xs ys us vs : List ℕ) → length xs ≡ length ys → is_same xs ys ≡ false → is_before (xs ++ us) (ys ++ vs) ≡ is_before xs ys
before-apart [] [] us vs l h = absurd (true≢false h)
before-apart [] (y ∷ ys) us vs l h = absurd (omega (arith, l))
before-apart (x ∷ xs) [] us vs l h = absurd (omega (arith, l))
before-apart (x ∷ xs) (y ∷ ys) us vs l h =
    ap (λ w. nat_lt x y || w) (and_agree (x == y) (is_before (xs ++ us) (ys ++ vs)) (is_before xs ys) (λ e.
    before-apart xs ys us vs (omega (arith, l)) (sym (ap (λ w. w && is_same xs ys) e) ∙ h)))

-- behind one front, what follows it decides
pub before-behind : (xs us vs : List ℕ) → is_before (xs ++ us) (xs ++ vs) ≡ is_before us vs
before-behind [] us vs = refl
before-behind (x ∷ xs) us vs =
    ap (λ w. w || ((x == x) && is_before (xs ++ us) (xs ++ vs))) (le-ltb x x (omega arith))
    ∙ ap (λ w. w && is_before (xs ++ us) (xs ++ vs)) (eq-eqb x x refl)
    ∙ before-behind xs us vs
