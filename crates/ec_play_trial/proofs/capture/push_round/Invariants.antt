use Rattle.std.proofs.Common.{◌≡◌, ◌≤◌, ◌+◌, ◌*◌, ◌++◌, drop, map, sum_by}
use Rattle.ec_player.specs.Boxes.{bytes_in}
use Rattle.ec_player.specs.Trips.{sent_in}
use Rattle.ec_play_trial.specs.Captures.{pairs, passing}
use Rattle.ec_play_trial.proofs.capture.push_round.Given as goal

abbrev pub invariant-loop-i : goal.invariant-loop-i
invariant-loop-i l =
    let sents = map sent_in (drop l.i l.trips) in
    record {
      most : l.ns ≤ l.start + 123040 * l.i;
      after : l.ns + sum_by passing sents ≡ l.start + sum_by passing (map sent_in l.trips);
      records : l.file.items ++ pairs l.ns sents (bytes_in (drop l.i l.backs)) ≡ l.initial.file.items ++ pairs l.start (map sent_in l.trips) (bytes_in l.backs);
    }
