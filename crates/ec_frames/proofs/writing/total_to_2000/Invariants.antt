use Rattle.std.proofs.Common.{◌≡◌, min, take}
use Rattle.ec_frames.specs.Written.{total_of}
use Rattle.ec_frames.proofs.writing.total_to_2000.Given as goal

abbrev pub invariant-loop-datagram : goal.invariant-loop-datagram
invariant-loop-datagram l = l.total ≡ min (total_of (take l.datagram-index l.list)) 2000
