-- The two FMMUs of a slave: which byte of its memory a logical byte is mapped to.
use Rattle.std.specs.Prelude.{◌≡◌, ℕ, ◌+◌, ◌-◌, ◌/◌, ◌%◌, ◌==◌, ◌&&◌, ◌<◌, ◌≤◌, nat_lt, nat_le, Bool, true, if◌then◌else◌, List, drop, slice_index, Option, Some, None}
use Rattle.byteorder.specs.Endian.{little_number}
use Rattle.ec_slave.specs.declared.fmmu.Fmmu.{Fmmu}
use Rattle.ec_slave.specs.declared.fmmu.Fmmus.{Fmmus}
use Rattle.ec_slave.specs.declared.fmmu.Direction.{Direction}
use Rattle.ec_slave.specs.declared.fmmu.Direction.TheVariants as direction

-- a record of 16 bytes from a place of the memory on: logical start 4, length 2, bits 2, physical start 2, bit 1, type 1
-- (bit 0 for reading, bit 1 for writing), activate 1 (bit 0), reserved 3
abbrev pub is_active_at : List ℕ → ℕ → Bool
is_active_at memory at = slice_index memory (at + 12) % 2 == 1

abbrev pub fmmu_at : List ℕ → ℕ → Fmmu
fmmu_at memory at = record {
  logical = little_number 4 (drop at memory);
  len = little_number 2 (drop (at + 4) memory);
  physical = little_number 2 (drop (at + 8) memory);
  reads = is_active_at memory at && (slice_index memory (at + 11) % 2 == 1);
  writes = is_active_at memory at && (slice_index memory (at + 11) / 2 % 2 == 1);
}

-- those of a slave are at 0x0600 and 0x0610
unfoldable pub fmmus_in : List ℕ → Fmmus
fmmus_in memory = record { first = fmmu_at memory 1536; second = fmmu_at memory 1552 }

abbrev pub has : Fmmu → Direction → Bool
has f direction.Reads = f.reads
has f direction.Writes = f.writes

-- a record maps a logical byte to a byte of a memory of so many bytes, in a direction: it has that direction and that byte, and
-- neither address passes its end
pub record IsMapped (f : Fmmu) (size : ℕ) (d : Direction) (logical memory : ℕ) : Type 0 where
  pub direction : has f d ≡ true
  pub at : ℕ
  pub within : at < f.len
  pub logical_is : logical ≡ f.logical + at
  pub memory_is : memory ≡ f.physical + at
  pub logical_end : logical ≤ 0xFFFFFFFF
  pub memory_end : memory < size

-- the byte of the memory to which it maps a logical byte, if it does
abbrev pub place_of : Fmmu → ℕ → Direction → ℕ → Option ℕ
place_of f size d a =
    if has f d && (nat_le f.logical a && (nat_lt a (f.logical + f.len) && (nat_le a 0xFFFFFFFF && nat_lt (f.physical + (a - f.logical)) size)))
    then Some (f.physical + (a - f.logical)) else None

-- the logical byte that it maps to a byte of the memory, if there is one
abbrev pub source_of : Fmmu → ℕ → Direction → ℕ → Option ℕ
source_of f size d m =
    if has f d && (nat_le f.physical m && (nat_lt m (f.physical + f.len) && (nat_le (f.logical + (m - f.physical)) 0xFFFFFFFF && nat_lt m size)))
    then Some (f.logical + (m - f.physical)) else None
