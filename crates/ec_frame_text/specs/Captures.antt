-- The frames of a plan as a capture file: classic pcap, numbers with their lowest byte first.
use Rattle.std.specs.Prelude.{◌≡◌, ℕ, ◌+◌, ◌-◌, ◌*◌, ◌/◌, ◌%◌, List, [], ◌∷◌, ◌++◌, length, map, take, get_or, sum_by}
use Rattle.std.specs.List.{flat_map, range_with_len}
use Rattle.ec_hyper.specs.Lcm.{lcm_of}
use Rattle.ec_units.specs.declared.slave.Place.{Place}
use Rattle.ec_units.specs.Load.{periods_of}
use Rattle.ec_units.specs.Views.{UnitsView, view_loads}
use Rattle.ec_wire.specs.Wire.{ns_of}
use Rattle.ec_fmmu.specs.declared.mapping.Mapping.{Mapping}
use Rattle.ec_fmmu.specs.Seats.{seats_of}
use Rattle.ec_fmmu.specs.Mappings.{IsLayout}
use Rattle.ec_frame_builder.specs.Frames.{frames_of}
use Rattle.ec_frame_text.specs.Lines.{wire_bytes, zeros}

-- a number as 4 bytes
abbrev pub four_bytes : ℕ → List ℕ
four_bytes n = n % 256 ∷ n / 256 % 256 ∷ n / 65536 % 256 ∷ n / 16777216 % 256 ∷ []

-- the magic number of stamps in ns, version 2.4, time zone and accuracy 0, frames of at most 65535 bytes, Ethernet
abbrev pub file_header : List ℕ
file_header =
    0x4d ∷ 0x3c ∷ 0xb2 ∷ 0xa1 ∷ 2 ∷ 0 ∷ 4 ∷ 0 ∷ 0 ∷ 0 ∷ 0 ∷ 0 ∷ 0 ∷ 0 ∷ 0 ∷ 0 ∷ 0xff ∷ 0xff ∷ 0 ∷ 0 ∷ 1 ∷ 0 ∷ 0 ∷ 0 ∷ []

-- a frame that is sent so many ns after the start: seconds, the rest in ns, the bytes held and the bytes sent, and the frame
abbrev pub frame_record : ℕ → List ℕ → List ℕ
frame_record ns frame =
    four_bytes (ns / 1000000000) ++ (four_bytes (ns % 1000000000) ++ (four_bytes (length frame) ++ (four_bytes (length frame) ++ frame)))

-- when frame i of a tick that begins then is sent: once those before it have passed
abbrev pub stamp : ℕ → List (List ℕ) → ℕ → ℕ
stamp start frames i = start + ns_of (sum_by wire_bytes (take i frames))

-- the frames of a tick that begins then
abbrev pub frame_records : ℕ → List (List ℕ) → List ℕ
frame_records start frames = flat_map (λ i. frame_record (stamp start frames i) (get_or frames i [])) (range_with_len 0 (length frames))

-- the frames of tick t, data zero
abbrev pub tick_records : UnitsView → Mapping → ℕ → List ℕ
tick_records v m t = frame_records (t * v.tick_ns) (frames_of m (zeros m) v.slots t)

-- the file: the frames of each tick below the hyperperiod
unfoldable pub capture : UnitsView → Mapping → List ℕ
capture v m = file_header ++ flat_map (tick_records v m) (range_with_len 0 (lcm_of (periods_of (view_loads v.units))))

-- the capture file of units at these places
pub record IsCapture (v : UnitsView) (places : List Place) (bytes : List ℕ) : Type 0 where
  pub mapping : Mapping
  pub layout : IsLayout (seats_of v.units places) mapping
  pub frames : bytes ≡ capture v mapping
