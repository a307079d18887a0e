-- The image after frames came back.
use Rattle.std.specs.Prelude.{ℕ, ◌+◌, ◌-◌, ◌&&◌, nat_le, nat_lt, if◌then◌else◌, List, [], ◌∷◌, length, map, get_or, Option, Some, None, unwrap_or}
use Rattle.std.specs.List.{flat_map, range_with_len}
use Rattle.ec_frames.specs.Reading.{Entry}
use Rattle.ec_slave.specs.Logical.{first_of}
use Rattle.ec_fmmu.specs.declared.fmmu.Fmmu.{Fmmu}
use Rattle.ec_frame_builder.specs.Frames.{is_input}
use Rattle.ec_player.specs.Faults.{entries_of}

-- the byte that a datagram has at a logical address, if it has one
abbrev pub byte_in : ℕ → Entry → Option ℕ
byte_in a d = if nat_le d.address a && nat_lt a (d.address + length d.bytes) then Some (get_or d.bytes (a - d.address) 0) else None

-- the one that the last of these datagrams has
abbrev pub last_byte : ℕ → List Entry → Option ℕ
last_byte a [] = None
last_byte a (d ∷ ds) = first_of (last_byte a ds) (byte_in a d)

-- the datagrams of frames
abbrev pub all_entries : List (List ℕ) → List Entry
all_entries frames = flat_map entries_of frames

-- an input is what came with the last frame that has it, 0 if none came; an output stays
abbrev pub byte_after : List (List Fmmu) → List ℕ → List Entry → ℕ → ℕ
byte_after fmmus image ds k = if is_input fmmus (65536 + k) then unwrap_or (last_byte (65536 + k) ds) 0 else get_or image k 0

abbrev pub image_after : List (List Fmmu) → List ℕ → List (List ℕ) → List ℕ
image_after fmmus image frames = map (byte_after fmmus image (all_entries frames)) (range_with_len 0 (length image))
