-- The frames that are sent before the first tick (own profile): they count the slaves, give each its station, and write its FMMU records.
use Rattle.std.specs.Prelude.{ℕ, suc, ◌+◌, ◌-◌, ◌*◌, ◌%◌, List, [], ◌∷◌, ◌++◌, length}
use Rattle.std.specs.List.{flat_map}
use Rattle.byteorder.specs.Endian.{little_bytes}
use Rattle.ec_units.specs.declared.units.Units.{Units}
use Rattle.ec_units.specs.Together.{stations_of}
use Rattle.ec_frames.specs.declared.writing.Datagram.{Datagram}
use Rattle.ec_frames.specs.declared.command.Command.TheVariants as command
use Rattle.ec_frames.specs.Written.{written}
use Rattle.ec_fmmu.specs.declared.fmmu.Fmmu.{Fmmu}
use Rattle.ec_fmmu.specs.declared.mapping.Mapping.{Mapping}
use Rattle.ec_fmmu.specs.Records.{record_bytes}

-- a start frame: its one datagram, the bytes of that, and the working counter with which it is to come back
pub record StartFrame : Type 0 where
  pub datagram : Datagram
  pub bytes : List ℕ
  pub want : ℕ

-- an address of two halves: a position or a station, and above it an offset into the memory
abbrev pub address_at : ℕ → ℕ → ℕ
address_at low offset = low + 65536 * offset

-- the position that is 0 where it comes to slave i of the line, since each slave before it adds 1, modulo 65536
abbrev pub position_of : ℕ → ℕ
position_of i = (65536 - i) % 65536

-- a broadcast read of 1 byte, which each of n slaves counts
abbrev pub roll_call : ℕ → StartFrame
roll_call n = record { datagram = record { command = command.Brd; address = address_at 0 0; len = 1 }; bytes = 0 ∷ []; want = n }

-- slave i, addressed by its position, gets the number of its station at 0x0010
abbrev pub naming : ℕ → ℕ → StartFrame
naming i station = record { datagram = record { command = command.Apwr; address = address_at (position_of i) 0x0010; len = 2 }; bytes = little_bytes 2 station; want = 1 }

-- the slave with this station gets its records at 0x0600, FMMU 0 before FMMU 1
abbrev pub mapping_frame : ℕ → List Fmmu → StartFrame
mapping_frame station fmmus = record { datagram = record { command = command.Fpwr; address = address_at station 0x0600; len = 32 }; bytes = flat_map record_bytes fmmus; want = 1 }

-- the stations of slaves from place i of the line on
abbrev pub namings : ℕ → List ℕ → List StartFrame
namings i [] = []
namings i (s ∷ ss) = naming i s ∷ namings (suc i) ss

-- the records of slaves
abbrev pub mapping_frames : List ℕ → List (List Fmmu) → List StartFrame
mapping_frames [] pairs = []
mapping_frames (s ∷ ss) [] = []
mapping_frames (s ∷ ss) (p ∷ ps) = mapping_frame s p ∷ mapping_frames ss ps

-- for slaves with these stations and records, in the order of the line
abbrev pub start_list : List ℕ → List (List Fmmu) → List StartFrame
start_list stations fmmus = roll_call (length stations) ∷ (namings 0 stations ++ mapping_frames stations fmmus)

-- the bytes of a start frame
abbrev pub start_bytes : StartFrame → List ℕ
start_bytes f = written (f.datagram ∷ []) f.bytes

-- the start frames of a line, in file order
abbrev pub starts_of : Units → Mapping → List StartFrame
starts_of us m = start_list (stations_of us.units) m.fmmus
