-- FMMU records: their bytes, and which memory they map.
use Rattle.std.specs.Prelude.{◌≡◌, ℕ, ◌+◌, ◌<◌, ◌≤◌, ◌==◌, ◌/◌, ◌%◌, true, if◌then◌else◌, List, [], ◌∷◌, replicate, Any}
use Rattle.ec_fmmu.specs.declared.fmmu.Fmmu.{Fmmu}

-- a number as 2 and as 4 bytes, the lowest first
abbrev pub two_bytes : ℕ → List ℕ
two_bytes n = n % 256 ∷ n / 256 % 256 ∷ []

-- the 16 bytes of a record: logical start 4, length 2, start bit and stop bit of the logical side 1 each, physical start 2, its start bit 1, type 1,
-- activate 1, reserved 3. Whole bytes are mapped, so the bits are 0 to 7. A record without bytes is all 0
abbrev pub record_bytes : Fmmu → List ℕ
record_bytes f =
    if f.len == 0 then replicate 16 0
    else f.logical % 256 ∷ f.logical / 256 % 256 ∷ f.logical / 65536 % 256 ∷ f.logical / 16777216 % 256
    ∷ f.len % 256 ∷ f.len / 256 % 256
    ∷ 0 ∷ 7
    ∷ f.physical % 256 ∷ f.physical / 256 % 256
    ∷ 0
    ∷ f.kind
    ∷ (if f.active then 1 else 0)
    ∷ 0 ∷ 0 ∷ 0 ∷ []

-- the slave's memory is read into the datagram, or written from it
pub data Direction : Type 0 where
  reads : Direction
  writes : Direction

-- a logical byte, the byte of the slave's memory that it is mapped to, and the direction
pub record Triple : Type 0 where
  pub logical : ℕ
  pub memory : ℕ
  pub direction : Direction

-- bit 0 of the type is for reading, bit 1 for writing
abbrev pub HasKind : ℕ → Direction → Type 0
HasKind kind reads = kind % 2 ≡ 1
HasKind kind writes = kind / 2 % 2 ≡ 1

-- a record maps a byte: it is active, has that direction and that byte, and neither address passes its end
pub record IsMappedBy (f : Fmmu) (t : Triple) : Type 0 where
  pub active : f.active ≡ true
  pub kind : HasKind f.kind t.direction
  pub at : ℕ
  pub within : at < f.len
  pub logical : t.logical ≡ f.logical + at
  pub memory : t.memory ≡ f.physical + at
  pub logical_end : t.logical ≤ 0xFFFFFFFF
  pub memory_end : t.memory ≤ 0xFFFF

-- a slave's records map a byte: one of them does
abbrev pub IsMapped : List Fmmu → Triple → Type 0
IsMapped fmmus t = Any (λ f. IsMappedBy f t) fmmus
