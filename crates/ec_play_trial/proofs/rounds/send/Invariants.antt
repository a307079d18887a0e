use Rattle.std.proofs.Common.{◌≡◌, ◌++◌, drop, length, map}
use Rattle.ec_player.specs.Boxes.{bytes_in}
use Rattle.ec_player.specs.Lines.{came_back, slaves_after}
use Rattle.ec_player.specs.Trips.{sent_in}
use Rattle.ec_play_trial.proofs.rounds.send.Given as goal

abbrev pub invariant-loop-trip : goal.invariant-loop-trip
invariant-loop-trip g l =
    let out = g.X.Pass.out in
    let next = g.X.Pass.next in
    let left = map sent_in (drop l.trip-index l.fn.trips.items) in
    record {
      count : length l.backs.items ≡ l.trip-index;
      backs : bytes_in l.backs.items ++ came_back out next l.slaves left ≡ came_back out next l.fn.slaves (map sent_in l.fn.trips.items);
      slaves : slaves_after out next l.slaves left ≡ slaves_after out next l.fn.slaves (map sent_in l.fn.trips.items);
    }
