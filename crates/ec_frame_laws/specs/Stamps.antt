-- When the frames of a capture file begin and have passed.
use Rattle.std.specs.Prelude.{◌≡◌, ◌⊎◌, ℕ, ◌+◌, ◌*◌, ◌<◌, ◌≤◌, List, [], length, get_or}
use Rattle.ec_units.specs.Views.{UnitsView}
use Rattle.ec_wire.specs.Wire.{ns_of}
use Rattle.ec_fmmu.specs.declared.mapping.Mapping.{Mapping}
use Rattle.ec_frame_builder.specs.Frames.{frames_of}
use Rattle.ec_frame_text.specs.Lines.{wire_bytes, zeros}
use Rattle.ec_frame_text.specs.Captures.{stamp}

-- the frames of tick t in the file
abbrev pub frames_at : UnitsView → Mapping → ℕ → List (List ℕ)
frames_at v m t = frames_of m (zeros m) v.slots t

-- when frame i of a tick has passed that begins then, whose frames are these
abbrev pub passed_at : ℕ → List (List ℕ) → ℕ → ℕ
passed_at start frames i = stamp start frames i + ns_of (wire_bytes (get_or frames i []))

-- frame i of tick t stands before frame j of tick u
abbrev pub StandsBefore : ℕ → ℕ → ℕ → ℕ → Type 0
StandsBefore t i u j = (t < u) ⊎ ((t ≡ u) × (i < j))

-- each frame of the file has passed when one begins that stands behind it
abbrev pub StampsRise : UnitsView → Mapping → Type 0
StampsRise v m =
    (t i u j : ℕ) → i < length (frames_at v m t) → StandsBefore t i u j →
    passed_at (t * v.tick_ns) (frames_at v m t) i ≤ stamp (u * v.tick_ns) (frames_at v m u) j
