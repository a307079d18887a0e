-- Which open leaves of a tree are of a part.
use Rattle.std.specs.Prelude.{ℕ, ◌≤◌, ◌<◌, ◌%◌, ◌==◌, Bool}
use Rattle.ec_cert.specs.declared.part.Part.{Part}

-- there is at least one part, and this is one of them
pub record IsPart (part : Part) : Type 0 where
  pub some : 1 ≤ part.count
  pub among : part.index < part.count

-- all open leaves
abbrev pub whole : Part
whole = record { index = 0; count = 1 }

-- the open leaf with this number, in preorder from 0, is of the part: divided by the count it leaves the index
abbrev pub has_leaf : Part → ℕ → Bool
has_leaf part n = (n % part.count) == part.index
