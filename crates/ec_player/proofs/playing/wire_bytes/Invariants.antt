use Rattle.std.proofs.Common.{◌≡◌, ◌+◌, ◌*◌, ◌≤◌, map, take, sum_by, length}
use Rattle.ec_player.specs.Trips.{sent_in}
use Rattle.ec_player.proofs.playing.wire_bytes.Given as goal

abbrev pub invariant-loop-trip : goal.invariant-loop-trip
invariant-loop-trip l = record {
  sum : l.bytes ≡ sum_by (λ s. length s.bytes + 24) (map sent_in (take l.trip-index l.trips));
  most : l.bytes ≤ 1538 * l.trip-index;
}
