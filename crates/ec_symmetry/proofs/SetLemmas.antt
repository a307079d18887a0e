-- How many different numbers a list has hangs on the set of its numbers alone.
use Rattle.std.proofs.Common.{◌≡◌, ℕ, List, sym, ◌∙◌, arith}
use Rattle.ec_loads.specs.Search.{different_numbers}
use Rattle.ec_loads.proofs.DifferentLemmas.{fewer_numbers}
use Rattle.ec_symmetry.proofs.UsedLemmas.{member}

-- two lists with the same numbers have equally many different ones
pub different-alike : (fs gs : List ℕ) → ((g : ℕ) → member g fs ≡ member g gs) → different_numbers fs ≡ different_numbers gs
different-alike fs gs h =
    let low = fewer_numbers fs gs (λ g m. sym (h g) ∙ m) in
    let high = fewer_numbers gs fs (λ g m. h g ∙ m) in
    omega arith
