use Rattle.std.proofs.Common.{◌≡◌, ℕ, ◌+◌, ◌<◌, length, get_or, unwrap_or, take}
use Rattle.ec_player.specs.Boxes.{bytes_in}
use Rattle.ec_player.specs.Images.{last_byte, all_entries}
use Rattle.ec_player.proofs.images.bring.Given as goal

abbrev pub invariant-loop-frame : goal.invariant-loop-frame
invariant-loop-frame l = record {
  len : length l.came ≡ length l.initial.came;
  bytes : (k : ℕ) → k < length l.initial.came → get_or l.came k 0
      ≡ unwrap_or (last_byte (65536 + k) (all_entries (bytes_in (take l.frame-index l.frames)))) (get_or l.initial.came k 0);
}
