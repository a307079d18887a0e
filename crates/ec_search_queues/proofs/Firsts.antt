-- A fact of each of the first elements of a list.
use Rattle.std.proofs.Common.{ℕ, zero, suc, ◌<◌, List, [], ◌∷◌, length, All, arith}
use Rattle.std.specs.List.{slice_index_or}
use Rattle.std.specs.Prelude.{slice_set}

abbrev pub AreFirst : {X : Type 0} → (X → Type 0) → ℕ → List X → Type 0
AreFirst {X} P n xs = (k : ℕ) (d : X) → k < n → P (slice_index_or xs k d)

pub first_none : {X : Type 0} (P : X → Type 0) (xs : List X) → AreFirst P 0 xs
first_none P xs k d below = absurd (omega (arith, below))

-- the next one is changed to one of which it holds
pub first_more : {X : Type 0} (P : X → Type 0) (n : ℕ) (xs : List X) (x : X) → n < length xs → AreFirst P n xs → P x → AreFirst P (suc n) (slice_set xs n x)
first_more P n [] x room h p k d below = absurd (omega (arith, room))
first_more P zero (y ∷ ys) x room h p zero d below = p
first_more P zero (y ∷ ys) x room h p (suc k) d below = absurd (omega (arith, below))
first_more P (suc n) (y ∷ ys) x room h p zero d below = h 0 d (omega arith)
first_more P (suc n) (y ∷ ys) x room h p (suc k) d below = first_more P n ys x (omega (arith, room)) (λ j e lt. h (suc j) e (omega (arith, lt))) p k d (omega (arith, below))

pub all_first : {X : Type 0} (P : X → Type 0) (xs : List X) → AreFirst P (length xs) xs → All P xs
all_first P xs h = h
