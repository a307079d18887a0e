use Rattle.std.proofs.Common.{◌≡◌, take, false}
use Rattle.ec_frame_builder.specs.Frames.{carries}
use Rattle.ec_frame_builder.proofs.frames.is_carrying.Given as goal

abbrev pub invariant-loop-group : goal.invariant-loop-group
invariant-loop-group l = carries (take l.group-index l.groups) l.tick l.slot ≡ false
