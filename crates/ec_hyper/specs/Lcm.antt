use Rattle.std.specs.Prelude.{ℕ, zero, suc, ◌-◌, ◌*◌, ◌%◌, ◌==◌, if◌then◌else◌, List, All, fold}
use Prim.Native.Nat.{◌∣◌}

-- the least common multiple: h is a multiple of each number, and each number that is one is a multiple of h
pub record IsLcm (numbers : List ℕ) (h : ℕ) : Type 0 where
  pub multiple : All (λ p. p ∣ h) numbers
  pub least : (m : ℕ) → All (λ p. p ∣ m) numbers → h ∣ m

-- the first k from the given one on such that b divides a * k, tried for n numbers
abbrev pub factor_from : ℕ → ℕ → ℕ → ℕ → ℕ
factor_from zero a b k = k
factor_from (suc n) a b k = if (a * k) % b == 0 then k else factor_from n a b (suc k)

-- the number that is the least common multiple of two positive numbers, so that examples compute
unfoldable pub lcm : ℕ → ℕ → ℕ
lcm a b = a * factor_from (b - 1) a b 1

-- the same of a list of positive numbers; 1 of none. `Hyper::of` ensures that it is the `IsLcm` of them
unfoldable pub lcm_of : List ℕ → ℕ
lcm_of numbers = fold lcm 1 numbers
