use Rattle.std.proofs.Common.{◌≡◌, ◌-◌, length}
use Rattle.ec_frames.specs.Written.{padded}
use Rattle.ec_frames.proofs.writing.pad.Given as goal

abbrev pub invariant-loop-frame : goal.invariant-loop-frame
invariant-loop-frame l = padded l.frame.items ≡ padded l.initial.frame.items

abbrev pub decreases-loop-frame : goal.decreases-loop-frame
decreases-loop-frame l = 60 - length l.frame.items
