-- What is added to a text under way, which is none where memory ran out.
use Rattle.std.specs.Prelude.{ℕ, List, Option, ◌≡◌, ◌++◌, IfSome, IsSomeAnd}

-- a text behind which this piece was added, where it is known what the piece says, or none; of none no text is made
abbrev pub IsAdded : Option (List ℕ) → Option (List ℕ) → Option (List ℕ) → Type 0
IsAdded old piece new = IfSome new (λ bytes. IsSomeAnd old (λ front. IfSome piece (λ said. bytes ≡ front ++ said)))
