use Rattle.std.proofs.Common.{◌≡◌, map, filter}
use Rattle.std.specs.List.{range_with_len}
use Rattle.ec_frame_builder.specs.Frames.{frame_of, going, carries}
use Rattle.ec_frame_builder.proofs.frames.slot_frames.Given as goal

abbrev pub invariant-loop-slot : goal.invariant-loop-slot
invariant-loop-slot l =
    map (λ frame. frame.items) l.frames.items ≡ map (λ s. frame_of (going l.groups l.tick s) l.bytes) (filter (carries l.groups l.tick) (range_with_len 0 l.slot))
