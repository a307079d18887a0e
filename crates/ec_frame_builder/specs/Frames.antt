-- The frames of a tick.
use Rattle.std.specs.Prelude.{ℕ, ◌+◌, ◌-◌, ◌==◌, ◌&&◌, nat_lt, nat_le, Bool, if◌then◌else◌, List, length, map, filter, take, drop, get_or}
use Rattle.std.specs.List.{flat_map, range_with_len, list_any}
use Rattle.ec_hyper.specs.Travel.{travels}
use Rattle.ec_units.specs.declared.slave.Place.{Place}
use Rattle.ec_units.specs.declared.units.Units.{Units}
use Rattle.ec_units.specs.Load.{loads_of}
use Rattle.ec_units.specs.Views.{unit_view}
use Rattle.ec_loads.specs.Legal.{IsLegal}
use Rattle.ec_frames.specs.declared.writing.Datagram.{Datagram}
use Rattle.ec_frames.specs.declared.command.Command.TheVariants as command
use Rattle.ec_frames.specs.Written.{written}
use Rattle.ec_fmmu.specs.declared.fmmu.Fmmu.{Fmmu}
use Rattle.ec_fmmu.specs.declared.group.Group.{Group}
use Rattle.ec_fmmu.specs.declared.mapping.Mapping.{Mapping}
use Rattle.ec_fmmu.specs.Seats.{seats_of}
use Rattle.ec_fmmu.specs.Mappings.{IsLayout}

-- a mapping is the layout of this plan, which is legal for the units
pub record IsLayoutFor (us : Units) (places : List Place) (m : Mapping) : Type 0 where
  pub legal : IsLegal (loads_of us.units) us.slots places
  pub layout : IsLayout (seats_of (map unit_view us.units) places) m

-- it is that of some legal plan
abbrev pub HasLayout : Units → Mapping → Type 0
HasLayout us m = (places : List Place) × IsLayoutFor us places m

-- a group travels in tick t in slot s
abbrev pub goes : ℕ → ℕ → Group → Bool
goes t s g = travels g.period g.phase t && (g.slot == s)

-- the groups that do, by period and phase
abbrev pub going : List Group → ℕ → ℕ → List Group
going groups t s = filter (goes t s) groups

-- the logical read-write datagram of a group
abbrev pub datagram_of : Group → Datagram
datagram_of g = record { command = command.Lrw; address = g.start; len = g.len }

-- a record for inputs covers the address
abbrev pub covers : ℕ → Fmmu → Bool
covers a f = (f.kind == 1) && (nat_le f.logical a && nat_lt a (f.logical + f.len))

-- the address is that of an input of some slave
abbrev pub is_input : List (List Fmmu) → ℕ → Bool
is_input fmmus a = list_any (λ pair. list_any (covers a) pair) fmmus

-- what is sent of an image, whose first byte is at 0x00010000: its outputs, and 0 for each input
abbrev pub sent_byte : List (List Fmmu) → List ℕ → ℕ → ℕ
sent_byte fmmus image k = if is_input fmmus (65536 + k) then 0 else get_or image k 0

abbrev pub sent : List (List Fmmu) → List ℕ → List ℕ
sent fmmus image = map (sent_byte fmmus image) (range_with_len 0 (length image))

-- the bytes of a group in what is sent
abbrev pub data_of : List ℕ → Group → List ℕ
data_of bytes g = take g.len (drop (g.start - 65536) bytes)

-- the frame of these groups: a datagram for each, in order, with its bytes
unfoldable pub frame_of : List Group → List ℕ → List ℕ
frame_of groups bytes = written (map datagram_of groups) (flat_map (data_of bytes) groups)

-- the frame of a slot in a tick
abbrev pub slot_frame : Mapping → List ℕ → ℕ → ℕ → List ℕ
slot_frame m image t s = frame_of (going m.groups t s) (sent m.fmmus image)

-- a slot carries something in a tick
abbrev pub carries : List Group → ℕ → ℕ → Bool
carries groups t s = list_any (goes t s) groups

-- the frames of a tick: one for each slot below n that carries something
abbrev pub frames_of : Mapping → List ℕ → ℕ → ℕ → List (List ℕ)
frames_of m image n t = map (slot_frame m image t) (filter (carries m.groups t) (range_with_len 0 n))
