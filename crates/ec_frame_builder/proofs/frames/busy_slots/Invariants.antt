use Rattle.std.proofs.Common.{◌≡◌, filter}
use Rattle.std.specs.List.{range_with_len}
use Rattle.ec_frame_builder.specs.Frames.{carries}
use Rattle.ec_frame_builder.proofs.frames.busy_slots.Given as goal

abbrev pub invariant-loop-slot : goal.invariant-loop-slot
invariant-loop-slot l = l.slots.items ≡ filter (carries l.groups l.tick) (range_with_len 0 l.slot)
