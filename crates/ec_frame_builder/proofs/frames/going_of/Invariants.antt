use Rattle.std.proofs.Common.{◌≡◌, take}
use Rattle.ec_frame_builder.specs.Frames.{going}
use Rattle.ec_frame_builder.proofs.frames.going_of.Given as goal

abbrev pub invariant-loop-group : goal.invariant-loop-group
invariant-loop-group l = l.there.items ≡ going (take l.group-index l.groups) l.tick l.slot
