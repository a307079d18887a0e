-- Sums over lists, term by term, and counts over runs of numbers.
-- `All` by index makes a pointwise lemma one line: `λ i d l. .. (get_or xs i d)`. Give a `cond` on numbers a name
-- (`once`) or write `◌≡◌ {A = ℕ}`, else `omega` can't read the fact.
use Rattle.std.proofs.Common.{◌≡◌, ℕ, zero, suc, ◌+◌, ◌<◌, ◌≤◌, nat_lt, ◌||◌, Bool, true, false, cond, List, [], ◌∷◌, ◌++◌, map, filter, get_or, sum_by, count_by, All, refl, sym, ap, ◌∙◌, inl, inr, arith}
use Rattle.std.specs.List.{range_with_len, flat_map, list_any}
use Rattle.std.proofs.lemmas.Bool.{false≢true, or_cases, cases_Bool, cases_lt, cond-true, cond-false, lt-ltb, le-ltb}
use Rattle.std.proofs.lemmas.List.Sums.{sum_by-cons, sum_by-append}
use Rattle.std.proofs.lemmas.List.Elements.{All-head, All-tail}

pub sum-agree : {X : Type 0} (f g : X → ℕ) (xs : List X) → All (λ x. f x ≡ g x) xs → sum_by f xs ≡ sum_by g xs
sum-agree f g [] h = refl
sum-agree f g (x ∷ xs) h =
    sum_by-cons f x xs
    ∙ (λ i. All-head (λ y. f y ≡ g y) x xs h i + sum-agree f g xs (All-tail (λ y. f y ≡ g y) x xs h) i)
    ∙ sym (sum_by-cons g x xs)

pub sum-add : {X : Type 0} (f g : X → ℕ) (xs : List X) → sum_by (λ x. f x + g x) xs ≡ sum_by f xs + sum_by g xs
sum-add f g [] = refl
sum-add f g (x ∷ xs) =
    let a = sum_by-cons (λ y. f y + g y) x xs in
    let b = sum_by-cons f x xs in
    let c = sum_by-cons g x xs in
    let rest = sum-add f g xs in
    omega arith

pub sum-filter : {X : Type 0} (f : X → ℕ) (p : X → Bool) (xs : List X) → sum_by f (filter p xs) ≡ sum_by (λ x. cond (p x) (f x) 0) xs
sum-filter {X = X} f p [] = refl
sum-filter {X = X} f p (x ∷ xs) =
    let g : X → ℕ = λ y. cond (p y) (f y) 0 in
    let whole : sum_by g (x ∷ xs) ≡ g x + sum_by g xs = sum_by-cons g x xs in
    let rest : sum_by f (filter p xs) ≡ sum_by g xs = sum-filter f p xs in
    elim (cases_Bool (p x)) [
      | inl t ↦
          let here : g x ≡ f x = cond-true (p x) (f x) 0 t in
          let kept : sum_by f (filter p (x ∷ xs)) ≡ f x + sum_by f (filter p xs) = ap (sum_by f) (cond-true (p x) (x ∷ filter p xs) (filter p xs) t) ∙ sum_by-cons f x (filter p xs) in
          omega (arith, whole, rest, here, kept)
      | inr n ↦
          let here : g x ≡ 0 = cond-false (p x) (f x) 0 n in
          let gone : sum_by f (filter p (x ∷ xs)) ≡ sum_by f (filter p xs) = ap (sum_by f) (cond-false (p x) (x ∷ filter p xs) (filter p xs) n) in
          omega (arith, whole, rest, here, gone)
    ]

pub sum-none : {X : Type 0} (f : X → ℕ) (xs : List X) → All (λ x. f x ≡ 0) xs → sum_by f xs ≡ 0
sum-none f [] h = refl
sum-none f (x ∷ xs) h =
    let a = sum_by-cons f x xs in
    let b = All-head (λ y. f y ≡ 0) x xs h in
    let rest = sum-none f xs (All-tail (λ y. f y ≡ 0) x xs h) in
    omega arith

pub sum-less : {X : Type 0} (f g : X → ℕ) (xs : List X) → All (λ x. f x ≤ g x) xs → sum_by f xs ≤ sum_by g xs
sum-less f g [] h = omega arith
sum-less f g (x ∷ xs) h =
    let a = sum_by-cons f x xs in
    let b = sum_by-cons g x xs in
    let c = All-head (λ y. f y ≤ g y) x xs h in
    let rest = sum-less f g xs (All-tail (λ y. f y ≤ g y) x xs h) in
    omega arith

abbrev pub once : Bool → ℕ
once b = cond b 1 0

-- a test that each number of a run passes, or none, or those below a bound
pub count-all : (p : List ℕ → Bool) (f : ℕ → List ℕ) (a n : ℕ) → ((k : ℕ) → p (f k) ≡ true) → count_by p (map f (range_with_len a n)) ≡ n
count-all p f a zero h = refl
count-all p f a (suc n) h =
    let e : count_by p (map f (range_with_len a (suc n))) ≡ once (p (f a)) + count_by p (map f (range_with_len (a + 1) n)) = sum_by-cons (λ x. cond (p x) 1 0) (f a) (map f (range_with_len (a + 1) n)) in
    let one : once (p (f a)) ≡ 1 = cond-true {A = ℕ} (p (f a)) 1 0 (h a) in
    let rest = count-all p f (a + 1) n h in
    omega arith

pub count-none : (p : List ℕ → Bool) (f : ℕ → List ℕ) (a n : ℕ) → ((k : ℕ) → p (f k) ≡ false) → count_by p (map f (range_with_len a n)) ≡ 0
count-none p f a zero h = refl
count-none p f a (suc n) h =
    let e : count_by p (map f (range_with_len a (suc n))) ≡ once (p (f a)) + count_by p (map f (range_with_len (a + 1) n)) = sum_by-cons (λ x. cond (p x) 1 0) (f a) (map f (range_with_len (a + 1) n)) in
    let one : once (p (f a)) ≡ 0 = cond-false {A = ℕ} (p (f a)) 1 0 (h a) in
    let rest = count-none p f (a + 1) n h in
    omega arith

count-past : (p : List ℕ → Bool) (f : ℕ → List ℕ) (k a n : ℕ) → ((j : ℕ) → p (f j) ≡ nat_lt j k) → k ≤ a → count_by p (map f (range_with_len a n)) ≡ 0
count-past p f k a zero h l = refl
count-past p f k a (suc n) h l =
    let e : count_by p (map f (range_with_len a (suc n))) ≡ once (p (f a)) + count_by p (map f (range_with_len (a + 1) n)) = sum_by-cons (λ x. cond (p x) 1 0) (f a) (map f (range_with_len (a + 1) n)) in
    let one : once (p (f a)) ≡ 0 = cond-false {A = ℕ} (p (f a)) 1 0 (h a ∙ le-ltb a k l) in
    let rest = count-past p f k (a + 1) n h (omega arith) in
    omega arith

pub count-below : (p : List ℕ → Bool) (f : ℕ → List ℕ) (k a n : ℕ) → ((j : ℕ) → p (f j) ≡ nat_lt j k) → a ≤ k → k ≤ a + n → count_by p (map f (range_with_len a n)) + a ≡ k
count-below p f k a zero h low high = omega arith
count-below p f k a (suc n) h low high =
    let e : count_by p (map f (range_with_len a (suc n))) ≡ once (p (f a)) + count_by p (map f (range_with_len (a + 1) n)) = sum_by-cons (λ x. cond (p x) 1 0) (f a) (map f (range_with_len (a + 1) n)) in
    elim (cases_lt a k) [
      | inl l ↦
          let one : once (p (f a)) ≡ 1 = cond-true {A = ℕ} (p (f a)) 1 0 (h a ∙ lt-ltb a k l) in
          let rest = count-below p f k (a + 1) n h (omega arith) (omega arith) in
          omega arith
      | inr g ↦
          let one : once (p (f a)) ≡ 0 = cond-false {A = ℕ} (p (f a)) 1 0 (h a ∙ le-ltb a k g) in
          let rest = count-past p f k (a + 1) n h (omega arith) in
          omega arith
    ]

-- a count over lists one after the other
pub count-flat : {X : Type 0} (p : List ℕ → Bool) (f : X → List (List ℕ)) (h : X → ℕ) (xs : List X) → All (λ x. count_by p (f x) ≡ h x) xs → count_by p (flat_map f xs) ≡ sum_by h xs
count-flat p f h [] e = refl
count-flat p f h (x ∷ xs) e =
    sum_by-append (λ y. cond (p y) 1 0) (f x) (flat_map f xs)
    ∙ (λ i. All-head (λ y. count_by p (f y) ≡ h y) x xs e i + count-flat p f h xs (All-tail (λ y. count_by p (f y) ≡ h y) x xs e) i)
    ∙ sym (sum_by-cons h x xs)

-- two tests that agree pass the same terms
pub filter-agree : {X : Type 0} (f : X → ℕ) (p q : X → Bool) (xs : List X) → All (λ x. p x ≡ q x) xs → sum_by f (filter p xs) ≡ sum_by f (filter q xs)
filter-agree {X = X} f p q xs h =
    sum-filter f p xs
    ∙ sum-agree (λ x. cond (p x) (f x) 0) (λ x. cond (q x) (f x) 0) xs (λ k d l. ap (λ b. cond b (f (get_or xs k d)) 0) (h k d l))
    ∙ sym (sum-filter f q xs)

-- a term that is smaller makes a sum smaller
pub sum-fewer : {X : Type 0} (f g : X → ℕ) (r : X → Bool) (xs : List X) → All (λ x. (f x ≤ g x) × (r x ≡ true → f x < g x)) xs → list_any r xs ≡ true → sum_by f xs < sum_by g xs
sum-fewer f g r [] h e = absurd (false≢true e)
sum-fewer {X = X} f g r (x ∷ xs) h e =
    let P : X → Type 0 = λ y. (f y ≤ g y) × (r y ≡ true → f y < g y) in
    let here : P x = All-head P x xs h in
    let rest : All P xs = All-tail P x xs h in
    let a : sum_by f (x ∷ xs) ≡ f x + sum_by f xs = sum_by-cons f x xs in
    let b : sum_by g (x ∷ xs) ≡ g x + sum_by g xs = sum_by-cons g x xs in
    elim (or_cases (r x) (list_any r xs) e) [
      | inl t ↦
          let one : f x < g x = here.1 t in
          let others : sum_by f xs ≤ sum_by g xs = sum-less f g xs (λ k d l. (rest k d l).0) in
          omega (arith, a, b, one, others)
      | inr u ↦
          let one : f x ≤ g x = here.0 in
          let others : sum_by f xs < sum_by g xs = sum-fewer f g r xs rest u in
          omega (arith, a, b, one, others)
    ]

or-assoc : (a b c : Bool) → ((a || b) || c) ≡ (a || (b || c))
or-assoc true b c = refl
or-assoc false b c = refl

pub any-append : {X : Type 0} (p : X → Bool) (xs ys : List X) → list_any p (xs ++ ys) ≡ (list_any p xs || list_any p ys)
any-append p [] ys = refl
any-append p (x ∷ xs) ys = ap (λ w. p x || w) (any-append p xs ys) ∙ sym (or-assoc (p x) (list_any p xs) (list_any p ys))
