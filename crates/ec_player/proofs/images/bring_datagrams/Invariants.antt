use Rattle.std.proofs.Common.{◌≡◌, ℕ, ◌+◌, ◌<◌, length, get_or, unwrap_or}
use Rattle.ec_player.specs.Images.{last_byte}
use Rattle.ec_player.proofs.images.bring_datagrams.Given as goal

abbrev pub invariant-datagrams : goal.invariant-datagrams
invariant-datagrams l = record {
  len : length l.came ≡ length l.initial.came;
  bytes : (k : ℕ) → k < length l.initial.came →
      unwrap_or (last_byte (65536 + k) l.views) (get_or l.came k 0) ≡ unwrap_or (last_byte (65536 + k) l.parsed) (get_or l.initial.came k 0);
}

abbrev pub decreases-datagrams : goal.decreases-datagrams
decreases-datagrams l = length l.views
