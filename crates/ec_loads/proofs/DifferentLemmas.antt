-- How many different elements a list has hangs on the set of its elements alone.
-- `subset`: fewer elements have fewer different ones. It is over any type with a test of equality and a count (`Kind`): so of numbers and of groups.
use Rattle.std.proofs.Common.{◌≡◌, ℕ, ◌+◌, ◌≤◌, ◌==◌, ◌||◌, Bool, true, false, not, cond, List, [], ◌∷◌, filter, refl, sym, ap, ◌∙◌, arith, inl, inr, eqb-true}
use Rattle.std.specs.List.{list_any}
use Rattle.std.proofs.lemmas.Bool.{true≢false, false≢true, and_parts, and_from, eq-eqb, or_right, cases_Bool, cond-true, cond-false, false_from_ne_true}
use Rattle.ec_loads.specs.Cost.{same_group, different}
use Rattle.ec_loads.specs.Search.{different_numbers}

-- an element counts unless it comes again
abbrev once : Bool → ℕ
once b = cond b 0 1

-- a type with a test of equality, and how many different elements a list has by it
record Kind (A : Type 0) : Type 0 where
  same : A → A → Bool
  is : (a b : A) → same a b ≡ true → a ≡ b
  self : (a : A) → same a a ≡ true
  count : List A → ℕ
  none : count [] ≡ 0
  step : (x : A) (xs : List A) → count (x ∷ xs) ≡ once (list_any (same x) xs) + count xs

-- it is one of the elements
abbrev has : {A : Type 0} → Kind A → A → List A → Bool
has k a xs = list_any (k.same a) xs

-- the list without an element
abbrev without : {A : Type 0} → Kind A → A → List A → List A
without k a xs = filter (λ x. not (k.same a x)) xs

without-none : {A : Type 0} (k : Kind A) (a : A) (xs : List A) → has k a xs ≡ false → without k a xs ≡ xs
without-none k a [] h = refl
without-none k a (x ∷ xs) h =
    elim (cases_Bool (k.same a x)) [
      | inl eq ↦ absurd (true≢false (sym (ap (λ b. b || has k a xs) eq) ∙ h))
      | inr ne ↦
          (λ i. cond (not (ne i)) (x ∷ without k a xs) (without k a xs))
          ∙ ap (λ w. x ∷ w) (without-none k a xs (sym (ap (λ b. b || has k a xs) ne) ∙ h))
    ]

-- another element is in the rest as it was in the whole
has-without : {A : Type 0} (k : Kind A) (a b : A) (xs : List A) → k.same a b ≡ false → has k b (without k a xs) ≡ has k b xs
has-without k a b [] h = refl
has-without k a b (x ∷ xs) h =
    elim (cases_Bool (k.same a x)) [
      | inl eq ↦
          let is : a ≡ x = k.is a x eq in
          let other : k.same b x ≡ false = false_from_ne_true (k.same b x) (λ t. false≢true (sym h ∙ ap (λ w. k.same a w) (k.is b x t ∙ sym is) ∙ k.self a)) in
          (λ i. has k b (cond (not (eq i)) (x ∷ without k a xs) (without k a xs)))
          ∙ has-without k a b xs h ∙ sym (ap (λ c. c || has k b xs) other)
      | inr ne ↦
          (λ i. has k b (cond (not (ne i)) (x ∷ without k a xs) (without k a xs)))
          ∙ ap (λ w. k.same b x || w) (has-without k a b xs h)
    ]

count-without : {A : Type 0} (k : Kind A) (a : A) (xs : List A) → has k a xs ≡ true → k.count xs ≡ 1 + k.count (without k a xs)
count-without k a [] h = absurd (false≢true h)
count-without k a (x ∷ xs) h =
    let step = k.step x xs in
    elim (cases_Bool (k.same a x)) [
      | inl eq ↦
          let is : a ≡ x = k.is a x eq in
          let gone : without k a (x ∷ xs) ≡ without k a xs = λ i. cond (not (eq i)) (x ∷ without k a xs) (without k a xs) in
          elim (cases_Bool (has k a xs)) [
            | inl again ↦
                let counted : once (has k x xs) ≡ 0 = cond-true (has k x xs) 0 1 (ap (λ w. has k w xs) (sym is) ∙ again) in
                let rest = count-without k a xs again in
                let same : k.count (without k a (x ∷ xs)) ≡ k.count (without k a xs) = ap k.count gone in
                omega arith
            | inr last ↦
                let counted : once (has k x xs) ≡ 1 = cond-false (has k x xs) 0 1 (ap (λ w. has k w xs) (sym is) ∙ last) in
                let same : k.count (without k a (x ∷ xs)) ≡ k.count xs = ap k.count (gone ∙ without-none k a xs last) in
                omega arith
          ]
      | inr ne ↦
          let kept : without k a (x ∷ xs) ≡ x ∷ without k a xs = λ i. cond (not (ne i)) (x ∷ without k a xs) (without k a xs) in
          let there : has k a xs ≡ true = sym (ap (λ b. b || has k a xs) ne) ∙ h in
          let rest = count-without k a xs there in
          let same : k.count (without k a (x ∷ xs)) ≡ once (has k x xs) + k.count (without k a xs) =
          ap k.count kept ∙ k.step x (without k a xs) ∙ ap (λ b. once b + k.count (without k a xs)) (has-without k a x xs ne) in
          omega arith
    ]

-- a list whose elements are all among another's has no more different ones
subset : {A : Type 0} (k : Kind A) (fs gs : List A) → ((g : A) → list_any (k.same g) fs ≡ true → list_any (k.same g) gs ≡ true) → k.count fs ≤ k.count gs
subset k [] gs h = let none = k.none in omega arith
subset k (f ∷ fs) gs h =
    let step = k.step f fs in
    elim (cases_Bool (has k f fs)) [
      | inl again ↦
          let counted : once (has k f fs) ≡ 0 = cond-true (has k f fs) 0 1 again in
          let rest = subset k fs gs (λ g m. h g (or_right (k.same g f) (has k g fs) m)) in
          omega arith
      | inr last ↦
          let counted : once (has k f fs) ≡ 1 = cond-false (has k f fs) 0 1 last in
          let here = count-without k f gs (h f (ap (λ b. b || has k f fs) (k.self f))) in
          let rest = subset k fs (without k f gs) (λ g m.
          let other : k.same f g ≡ false = false_from_ne_true (k.same f g) (λ t. false≢true (sym last ∙ ap (λ w. has k w fs) (k.is f g t) ∙ m)) in
          has-without k f g gs other ∙ h g (or_right (k.same g f) (has k g fs) m)) in
          omega arith
    ]

pub same_group-is : (a b : ℕ × ℕ) → same_group a b ≡ true → a ≡ b
same_group-is a b h =
    let parts = and_parts (a.0 == b.0) (a.1 == b.1) h in
    λ i. (eqb-true a.0 b.0 parts.0 i, eqb-true a.1 b.1 parts.1 i)

abbrev numbers : Kind ℕ
numbers =
    record {
      same = λ a b. a == b;
      is = eqb-true;
      self = λ a. eq-eqb a a refl;
      count = different_numbers;
      none = refl;
      step = λ x xs. refl;
    }

abbrev groups : Kind (ℕ × ℕ)
groups =
    record {
      same = same_group;
      is = same_group-is;
      self = λ a. and_from (a.0 == a.0) (a.1 == a.1) (eq-eqb a.0 a.0 refl) (eq-eqb a.1 a.1 refl);
      count = different;
      none = refl;
      step = λ x xs. refl;
    }

pub fewer_numbers : (fs gs : List ℕ) → ((n : ℕ) → list_any (λ m. n == m) fs ≡ true → list_any (λ m. n == m) gs ≡ true) → different_numbers fs ≤ different_numbers gs
fewer_numbers = subset numbers

pub fewer_groups : (fs gs : List (ℕ × ℕ)) → ((g : ℕ × ℕ) → list_any (same_group g) fs ≡ true → list_any (same_group g) gs ≡ true) → different fs ≤ different gs
fewer_groups = subset groups
