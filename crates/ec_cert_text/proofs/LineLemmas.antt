-- Lines, as a loop reads them.
use Rattle.std.proofs.Common.{ℕ, List, ◌++◌, Option, option_map}

-- what comes before, and then what is cut off
abbrev pub with_front : List ℕ → Option (List ℕ × List ℕ) → Option (List ℕ × List ℕ)
with_front front o = option_map (λ x. (front ++ x.0, x.1)) o
