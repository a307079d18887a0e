use Rattle.std.proofs.Common.{◌≡◌, take, map}
use Rattle.ec_frame_builder.specs.Frames.{datagram_of}
use Rattle.ec_frame_builder.proofs.frames.datagrams_of.Given as goal

abbrev pub invariant-loop-group : goal.invariant-loop-group
invariant-loop-group l = l.list.items ≡ map datagram_of (take l.group-index l.groups)
