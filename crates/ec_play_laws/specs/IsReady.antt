-- What the memory of a slave holds once it was started: its FMMU records.
use Rattle.std.specs.Prelude.{◌≡◌, ℕ, ◌+◌, ◌<◌, List, [], ◌∷◌, length, get_or}
use Rattle.std.specs.List.{flat_map}
use Rattle.ec_fmmu.specs.declared.seat.Seat.{Seat}
use Rattle.ec_fmmu.specs.Records.{record_bytes}
use Rattle.ec_fmmu.specs.Mappings.{records_of}

-- of slaves at these seats, this is the memory of one: its records stand from 0x0600 on
pub record IsReady (seats : List Seat) (s : Seat) (m : List ℕ) : Type 0 where
  pub whole : length m ≡ 65536
  pub records : (k : ℕ) → k < 32 → get_or m (1536 + k) 0 ≡ get_or (flat_map record_bytes (records_of seats s)) k 0

-- these are the memories of those slaves, one for each
abbrev pub AreReady : List Seat → List Seat → List (List ℕ) → Type 0
AreReady seats [] [] = Unit {0}
AreReady seats [] (m ∷ ms) = ⊥
AreReady seats (s ∷ ss) [] = ⊥
AreReady seats (s ∷ ss) (m ∷ ms) = IsReady seats s m × AreReady seats ss ms
