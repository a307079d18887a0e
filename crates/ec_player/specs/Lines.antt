-- Frames that are sent through slaves in a line, one after the other.
use Rattle.std.specs.Prelude.{◌≡◌, ℕ, List, map, None}
use Rattle.ec_slave.specs.Journey.{journey, arrived}
use Rattle.ec_outcome.specs.declared.play.PlayFault.{PlayFault}
use Rattle.ec_outcome.specs.declared.play.PlayFault.TheVariants as fault
use Rattle.ec_player.specs.Sent.{Sent}
use Rattle.ec_player.specs.Faults.{first_fault}

-- the bytes of what is sent
abbrev pub bytes_of : List Sent → List (List ℕ)
bytes_of sents = map (λ s. s.bytes) sents

module _ {X : Type 0} (out : X → List ℕ → List ℕ) (next : X → List ℕ → X) where
  -- the frames that come back of these
  abbrev pub came_back : List X → List Sent → List (List ℕ)
  came_back slaves sents = journey out next slaves (bytes_of sents)

  -- the slaves after them
  abbrev pub slaves_after : List X → List Sent → List X
  slaves_after slaves sents = arrived out next slaves (bytes_of sents)

  -- no frame is faulty, of those from number n on
  abbrev pub AreRight : List X → ℕ → List Sent → Type 0
  AreRight slaves n sents = first_fault n sents (came_back slaves sents) ≡ None

-- memory ran out
abbrev pub IsMemory : PlayFault → Type 0
IsMemory f = f ≡ fault.OutOfMemory
