-- What a writer gets and what still waits, when a text comes behind what waited.
use Rattle.std.specs.Prelude.{ℕ, ◌≡◌, List, ◌++◌, Option}
use Rattle.std.specs.Io.KnownBytes.{Appends}
use Rattle.ec_wire.specs.Stream.{WritesFront}

-- of what waited and the text a front is written, and the rest waits
pub record Gathers (old : Option (List ℕ)) (waited : List ℕ) (new : Option (List ℕ)) (waits : List ℕ) (text : List ℕ) : Type 0 where
  pub sent : List ℕ
  pub written : Appends old new sent
  pub rest : sent ++ waits ≡ waited ++ text

-- of what waited and the text a front is written
pub record GathersFront (old : Option (List ℕ)) (waited : List ℕ) (new : Option (List ℕ)) (text : List ℕ) : Type 0 where
  pub written : WritesFront old new (waited ++ text)
