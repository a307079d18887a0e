-- The numbers that a local search draws.
use Rattle.std.specs.Prelude.{◌≡◌, ℕ, zero, suc, ◌*◌, ◌%◌, List, [], ◌∷◌, refl}

-- the number after x
abbrev pub next_draw : ℕ → ℕ
next_draw x = 48271 * x % 2147483647

-- so many numbers after x
abbrev pub draws_after : ℕ → ℕ → List ℕ
draws_after zero x = []
draws_after (suc n) x = next_draw x ∷ draws_after n (next_draw x)

-- the first eight
first_draws : draws_after 8 1 ≡ 48271 ∷ 182605794 ∷ 1291394886 ∷ 1914720637 ∷ 2078669041 ∷ 407355683 ∷ 1105902161 ∷ 854716505 ∷ []
first_draws = refl
