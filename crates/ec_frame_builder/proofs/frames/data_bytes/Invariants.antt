use Rattle.std.proofs.Common.{◌≡◌, take}
use Rattle.std.specs.List.{flat_map}
use Rattle.ec_frame_builder.specs.Frames.{data_of}
use Rattle.ec_frame_builder.proofs.frames.data_bytes.Given as goal

abbrev pub invariant-loop-group : goal.invariant-loop-group
invariant-loop-group l = l.data.items ≡ flat_map (data_of l.bytes) (take l.group-index l.groups)
