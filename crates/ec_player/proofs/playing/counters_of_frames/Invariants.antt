use Rattle.std.proofs.Common.{◌≡◌, take}
use Rattle.ec_player.specs.Boxes.{bytes_in}
use Rattle.ec_player.specs.Rows.{counters_of}
use Rattle.ec_player.proofs.playing.counters_of_frames.Given as goal

abbrev pub invariant-loop-frame : goal.invariant-loop-frame
invariant-loop-frame l = l.counters.items ≡ counters_of (bytes_in (take l.frame-index l.frames))
