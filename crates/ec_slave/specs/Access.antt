-- Commands that address a slave by position, station or broadcast: what they leave of its memory, said of ranges of bytes.
use Rattle.std.specs.Prelude.{ℕ, ◌+◌, ◌/◌, ◌%◌, ◌==◌, ◌&&◌, ◌||◌, nat_lt, nat_le, Bool, true, false, if◌then◌else◌, bit_or, List, ◌++◌, length, take, drop, map, get_or, Option, Some, None}
use Rattle.std.specs.List.{range_with_len}
use Rattle.byteorder.specs.Endian.{little_number}
use Rattle.ec_frames.specs.declared.command.AddressKind.{AddressKind}
use Rattle.ec_frames.specs.declared.command.AddressKind.TheVariants as kind
use Rattle.ec_slave.specs.declared.request.Request.{Request}

-- bytes in place of those that stood from a place on
abbrev pub put : ℕ → List ℕ → List ℕ → List ℕ
put at bytes list = take at list ++ (bytes ++ drop (length bytes) (drop at list))

-- the low half of an address: the position or the station
abbrev pub low_half : ℕ → ℕ
low_half address = address % 65536

-- the high half: an offset into the memory
abbrev pub offset_of : ℕ → ℕ
offset_of address = address / 65536

-- what a datagram does at a slave: the memory that it leaves, what stands in place of its data, if anything does, and what its
-- working counter gains
pub record Effect : Type 0 where
  pub memory : List ℕ
  pub reply : Option (List ℕ)
  pub gain : ℕ

abbrev pub no_effect : List ℕ → Effect
no_effect memory = record { memory = memory; reply = None; gain = 0 }

-- the number of the slave's station: 16 bits at 0x0010 of its memory
abbrev pub station_of : List ℕ → ℕ
station_of memory = little_number 2 (drop 16 memory)

-- a slave with this memory is addressed: by the position 0, by the number of its station, and by every broadcast
abbrev pub is_addressed : AddressKind → List ℕ → ℕ → Bool
is_addressed kind.None memory address = false
is_addressed kind.Position memory address = low_half address == 0
is_addressed kind.Station memory address = low_half address == station_of memory
is_addressed kind.Broadcast memory address = true
is_addressed kind.Logical memory address = false

-- an access reaches at least one byte, and none past the end of the memory
abbrev pub is_within : List ℕ → ℕ → ℕ → Bool
is_within memory offset n = nat_lt 0 n && nat_le (offset + n) (length memory)

-- the bytes that came, each joined with the byte of the memory by `or`
abbrev pub merged : List ℕ → List ℕ → ℕ → List ℕ
merged bytes memory offset = map (λ k. bit_or (get_or bytes k 0) (get_or memory (offset + k) 0)) (range_with_len 0 (length bytes))

-- what a read puts in place of the bytes that came: the bytes of the memory, which a broadcast joins with those that came
abbrev pub reading : AddressKind → List ℕ → ℕ → List ℕ → List ℕ
reading kind.Broadcast memory offset bytes = merged bytes memory offset
reading _ memory offset bytes = take (length bytes) (drop offset memory)

-- 3 for a read and a write in one, else 1
abbrev pub access_gain : Bool → Bool → ℕ
access_gain reads writes = if reads && writes then 3 else if reads || writes then 1 else 0

-- what is done at an offset with the bytes that came. A read takes the memory as it was
abbrev pub accessed : Request → List ℕ → ℕ → List ℕ → Effect
accessed r memory offset bytes =
    if is_within memory offset (length bytes)
    then record {
      memory = if r.writes then put offset bytes memory else memory;
      reply = if r.reads then Some (reading r.kind memory offset bytes) else None;
      gain = access_gain r.reads r.writes;
    }
    else no_effect memory
