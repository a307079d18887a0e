-- What a word tells of numbers.
use Rattle.std.proofs.Common.{◌≡◌, ℕ, ◌≤◌, true, false, nat_lt, min, Some, None, arith, refl, ap}
use Rattle.std.proofs.lemmas.Bool.Decides.{nat_tests}
use Rattle.std.specs.Prelude.{if◌then◌else◌}
use Rattle.ec_search_queues.specs.Lowest.{nothing, told, lesser_of, IsAtMost}

pub told_falls : (n m : ℕ) → n ≤ m → IsAtMost (told n) (told m)
told_falls n m le = elim (nat_lt m nothing) as (λ b. nat_lt m nothing ≡ b → IsAtMost (told n) (if b then Some m else None)) [ true ↦ λ is. (let less : nat_lt n nothing ≡ true = grind (arith, nat_tests) in rw less le) | false ↦ λ is. tt ] refl

pub told_least : (n value : ℕ) → n ≤ value → value ≤ 12304 → IsAtMost (told n) (Some value)
told_least n value le most = let less : nat_lt n nothing ≡ true = grind (arith, nat_tests) in rw less le

pub told_lowered : (n value : ℕ) → value ≤ 12304 → told (min n value) ≡ lesser_of (told n) value
told_lowered n value most =
    let less : nat_lt (min n value) nothing ≡ true = grind (arith, nat_tests) in
    elim (nat_lt n nothing) as (λ b. nat_lt n nothing ≡ b → told (min n value) ≡ lesser_of (if b then Some n else None) value) [
      | true ↦ λ is. rw less refl
      | false ↦ λ is. (let all : min n value ≡ value = grind (arith, nat_tests) in rw less (ap Some all))
    ] refl
