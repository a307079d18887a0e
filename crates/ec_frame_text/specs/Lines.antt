-- The lines of the FMMU records of a plan and of its frames.
use Rattle.std.specs.Prelude.{◌≡◌, ℕ, zero, suc, ◌+◌, ◌-◌, List, [], ◌∷◌, ◌++◌, codes, length, map, filter, replicate}
use Rattle.std.specs.List.{flat_map, range_with_len}
use Rattle.std.specs.Fmt.{decimal}
use Rattle.ec_hyper.specs.Lcm.{lcm_of}
use Rattle.ec_units.specs.declared.slave.Place.{Place}
use Rattle.ec_units.specs.Load.{periods_of}
use Rattle.ec_units.specs.Views.{UnitView, UnitsView, view_loads}
use Rattle.ec_wire.specs.Wire.{wire_of}
use Rattle.ec_fmmu.specs.declared.fmmu.Fmmu.{Fmmu}
use Rattle.ec_fmmu.specs.declared.mapping.Mapping.{Mapping}
use Rattle.ec_fmmu.specs.Seats.{seats_of}
use Rattle.ec_fmmu.specs.Records.{record_bytes}
use Rattle.ec_fmmu.specs.Mappings.{IsLayout}
use Rattle.ec_frame_builder.specs.Frames.{carries, slot_frame}
use Rattle.ec_frame_text.specs.Hex.{hex}

-- ---- records

-- the stations of all slaves, in file order
abbrev pub stations_in : List UnitView → List ℕ
stations_in units = flat_map (λ u. map (λ s. s.station) u.slaves) units

-- record k of a station
abbrev pub fmmu_line : ℕ → ℕ → Fmmu → List ℕ
fmmu_line station k f = codes "fmmu " ++ (decimal station ++ (codes " " ++ (decimal k ++ (codes " " ++ (hex (record_bytes f) ++ codes "\n")))))

-- the records of a station, from record k on
abbrev pub station_lines : ℕ → ℕ → List Fmmu → List ℕ
station_lines station k [] = []
station_lines station k (f ∷ fs) = fmmu_line station k f ++ station_lines station (suc k) fs

-- the records of each station
abbrev pub fmmu_lines : List ℕ → List (List Fmmu) → List ℕ
fmmu_lines (s ∷ ss) (p ∷ ps) = station_lines s 0 p ++ fmmu_lines ss ps
fmmu_lines ss ps = []

-- ---- frames

-- the bytes that a frame takes on the wire: its payload is what follows the Ethernet header of 14 bytes
abbrev pub wire_bytes : List ℕ → ℕ
wire_bytes frame = wire_of (length frame - 14)

-- the frame of slot s in tick t
abbrev pub frame_line : ℕ → ℕ → List ℕ → List ℕ
frame_line t s frame = codes "frame " ++ (decimal t ++ (codes " " ++ (decimal s ++ (codes " " ++ (decimal (wire_bytes frame) ++ (codes " " ++ (hex frame ++ codes "\n")))))))

-- frames of tick t, each with its slot
abbrev pub frame_lines : ℕ → List ℕ → List (List ℕ) → List ℕ
frame_lines t (s ∷ ss) (f ∷ fs) = frame_line t s f ++ frame_lines t ss fs
frame_lines t ss fs = []

-- an image of zeros
abbrev pub zeros : Mapping → List ℕ
zeros m = replicate m.total 0

-- the slots below n that carry something in tick t
abbrev pub slots_of : Mapping → ℕ → ℕ → List ℕ
slots_of m n t = filter (carries m.groups t) (range_with_len 0 n)

-- the frames of tick t with their slots, data zero
abbrev pub tick_lines : Mapping → ℕ → ℕ → List ℕ
tick_lines m n t = flat_map (λ s. frame_line t s (slot_frame m (zeros m) t s)) (slots_of m n t)

-- ---- the whole text

-- the records of each slave, and the frames of each tick below the hyperperiod
unfoldable pub frames_text : UnitsView → Mapping → List ℕ
frames_text v m =
    fmmu_lines (stations_in v.units) m.fmmus
    ++ flat_map (tick_lines m v.slots) (range_with_len 0 (lcm_of (periods_of (view_loads v.units))))

-- the text of units at these places: that of their layout
pub record IsFramesText (v : UnitsView) (places : List Place) (text : List ℕ) : Type 0 where
  pub mapping : Mapping
  pub layout : IsLayout (seats_of v.units places) mapping
  pub lines : text ≡ frames_text v mapping
