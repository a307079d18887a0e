-- What a slave maps, in the words of a layout.
use Rattle.std.specs.Prelude.{◌≡◌, ◌⊎◌, ℕ, ◌+◌, ◌^◌, ◌<◌, List, length, get_or}
use Rattle.ec_fmmu.specs.declared.fmmu.Fmmu.{Fmmu}
use Rattle.ec_fmmu.specs.Records.{Direction, reads, writes, Triple, record_bytes}
use Rattle.ec_slave.specs.declared.fmmu.Direction.{Direction as Side}
use Rattle.ec_slave.specs.declared.fmmu.Direction.TheVariants as side
use Rattle.ec_slave.specs.Fmmus.{fmmu_at, fmmus_in, IsMapped}

-- the numbers of a record have the bits of its fields
pub record IsNarrow (f : Fmmu) : Type 0 where
  pub logical : f.logical < 2 ^ 32
  pub len : f.len < 65536
  pub physical : f.physical < 65536
  pub kind : f.kind < 256

-- a memory holds the bytes of a record from here on
abbrev pub HoldsRecord : List ℕ → ℕ → Fmmu → Type 0
HoldsRecord memory at f = (k : ℕ) → k < 16 → get_or memory (at + k) 0 ≡ get_or (record_bytes f) k 0

-- a direction, as a slave names it
abbrev pub side_of : Direction → Side
side_of reads = side.Reads
side_of writes = side.Writes

-- a slave maps a byte by the record that its memory holds from here on
abbrev pub MapsAt : List ℕ → ℕ → Triple → Type 0
MapsAt memory at t = IsMapped (fmmu_at memory at) (length memory) (side_of t.direction) t.logical t.memory

-- by one of its two
abbrev pub SlaveMaps : List ℕ → Triple → Type 0
SlaveMaps memory t =
    IsMapped (fmmus_in memory).first (length memory) (side_of t.direction) t.logical t.memory
    ⊎ IsMapped (fmmus_in memory).second (length memory) (side_of t.direction) t.logical t.memory
