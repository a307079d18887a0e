use Rattle.std.proofs.Common.{◌≡◌, ◌++◌, map, drop}
use Rattle.ec_frame_builder.specs.Start.{mapping_frames, start_bytes}
use Rattle.ec_frame_builder.proofs.start.push_mappings.Given as goal

abbrev pub invariant-loop-i : goal.invariant-loop-i
invariant-loop-i l =
    map (λ frame. frame.items) l.frames.items ++ map start_bytes (mapping_frames (drop l.i l.stations) (drop l.i l.fmmus))
    ≡ map (λ frame. frame.items) l.initial.frames.items ++ map start_bytes (mapping_frames l.stations l.fmmus)
