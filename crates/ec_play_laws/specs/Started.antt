-- What the start frames leave in the memories of slaves.
use Rattle.std.specs.Prelude.{◌≡◌, ℕ, List, [], ◌∷◌, length, All}
use Rattle.std.specs.List.{flat_map}
use Rattle.byteorder.specs.Endian.{little_bytes}
use Rattle.ec_fmmu.specs.declared.fmmu.Fmmu.{Fmmu}
use Rattle.ec_fmmu.specs.Records.{record_bytes}
use Rattle.ec_slave.specs.Access.{put}

-- each is the memory of a slave
abbrev pub AreMemories : List (List ℕ) → Type 0
AreMemories slaves = All (λ m. length m ≡ 65536) slaves

-- a memory with its station at 0x0010, and with its records from 0x0600 on
abbrev pub with_station : ℕ → List ℕ → List ℕ
with_station station memory = put 16 (little_bytes 2 station) memory

abbrev pub with_records : List Fmmu → List ℕ → List ℕ
with_records records memory = put 1536 (flat_map record_bytes records) memory

-- each slave has its station and its records, and every other byte as it was
abbrev pub started : List ℕ → List (List Fmmu) → List (List ℕ) → List (List ℕ)
started [] pairs ms = []
started (s ∷ ss) [] ms = []
started (s ∷ ss) (p ∷ ps) [] = []
started (s ∷ ss) (p ∷ ps) (m ∷ ms) = with_records p (with_station s m) ∷ started ss ps ms
