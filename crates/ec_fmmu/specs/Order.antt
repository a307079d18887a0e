-- The order of lists of numbers, by their first number that differs.
use Rattle.std.specs.Prelude.{ℕ, Bool, true, false, ◌&&◌, ◌||◌, ◌==◌, nat_lt, List, [], ◌∷◌}

-- one list stands before the other; a front stands before what goes on
abbrev pub is_before : List ℕ → List ℕ → Bool
is_before [] [] = false
is_before [] (y ∷ ys) = true
is_before (x ∷ xs) [] = false
is_before (x ∷ xs) (y ∷ ys) = nat_lt x y || ((x == y) && is_before xs ys)

-- they are one
abbrev pub is_same : List ℕ → List ℕ → Bool
is_same [] [] = true
is_same [] (y ∷ ys) = false
is_same (x ∷ xs) [] = false
is_same (x ∷ xs) (y ∷ ys) = (x == y) && is_same xs ys
