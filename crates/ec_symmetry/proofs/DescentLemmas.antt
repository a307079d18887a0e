-- Descent along lists of numbers of one length: a step goes down, or nothing is left to do.
use Rattle.std.proofs.Common.{◌≡◌, ℕ, zero, suc, ◌<◌, ◌⊎◌, List, [], ◌∷◌, length, refl, sym, subst, arith, inl, inr}

-- one list of numbers is before another of the same length, by the first place where they differ
abbrev pub IsBefore : List ℕ → List ℕ → Type 0
IsBefore [] ys = ⊥
IsBefore (x ∷ xs) [] = ⊥
IsBefore (x ∷ xs) (y ∷ ys) = ((x < y) × (length xs ≡ length ys)) ⊎ ((x ≡ y) × IsBefore xs ys)

-- what holds where it holds of all smaller numbers holds
below_bound : (P : ℕ → Type 0) → ((n : ℕ) → ((m : ℕ) → m < n → P m) → P n) → (bound n : ℕ) → n < bound → P n
below_bound P step zero n h = absurd (omega arith)
below_bound P step (suc b) n h = step n (λ m k. below_bound P step b m (omega arith))

by_numbers : (P : ℕ → Type 0) → ((n : ℕ) → ((m : ℕ) → m < n → P m) → P n) → (n : ℕ) → P n
by_numbers P step n = below_bound P step (suc n) n (omega arith)

-- the same of lists of one length
by_lists : (k : ℕ) (P : List ℕ → Type 0) → ((xs : List ℕ) → length xs ≡ k → ((ys : List ℕ) → IsBefore ys xs → P ys) → P xs) → (xs : List ℕ) → length xs ≡ k → P xs
by_lists zero P step [] e = step [] e (λ ys b. elim ys as (λ zs. IsBefore zs [] → P zs) [ [] ↦ λ h. absurd h | z ∷ zs ↦ λ h. absurd h ] b)
by_lists zero P step (a ∷ xs) e = absurd (omega arith)
by_lists (suc k) P step [] e = absurd (omega arith)
by_lists (suc k) P step (a ∷ xs) e =
    by_numbers (λ n. (bs : List ℕ) → length bs ≡ k → P (n ∷ bs))
    (λ n lower. by_lists k (λ bs. P (n ∷ bs)) (λ bs same later.
    step (n ∷ bs) (omega arith) (λ ys before.
    elim ys as (λ zs. IsBefore zs (n ∷ bs) → P zs) [
      | [] ↦ λ h. absurd h
      | z ∷ zs ↦ λ h. elim h [
        | inl less ↦ lower z less.0 zs (omega (arith, less.1, same))
        | inr equal ↦ subst (λ w. P (w ∷ zs)) (sym equal.0) (later zs equal.1)
      ]
    ] before)))
    a xs (omega arith)

-- whatever is good leads down to something good where nothing is left to do
pub descend : {X : Type 0} (key : X → List ℕ) (k : ℕ) (Good Done : X → Type 0) → ((x : X) → length (key x) ≡ k) → ((x : X) → Good x → Done x ⊎ ((y : X) × Good y × IsBefore (key y) (key x))) → (x : X) → Good x → (y : X) × Good y × Done y
descend {X} key k Good Done long step x good =
    by_lists k (λ ks. (y : X) → key y ≡ ks → Good y → (z : X) × Good z × Done z)
    (λ ks same lower y is g. elim (step y g) [
      | inl done ↦ (y, g, done)
      | inr less ↦ lower (key less.0) (subst (λ w. IsBefore (key less.0) w) is less.2) less.0 refl less.1
    ])
    (key x) (long x) x refl good
