use Rattle.std.proofs.Common.{◌≡◌, ◌+◌, ◌++◌, drop, map}
use Rattle.ec_player.specs.Boxes.{bytes_in}
use Rattle.ec_player.specs.Faults.{first_fault}
use Rattle.ec_player.specs.Lines.{came_back, slaves_after}
use Rattle.ec_player.specs.Trips.{sent_in}
use Rattle.ec_player.proofs.journeys.travel.Given as goal

abbrev pub invariant-loop-trip : goal.invariant-loop-trip
invariant-loop-trip g l =
    let out = g.X.Pass.out in
    let next = g.X.Pass.next in
    record {
      number : l.number ≡ l.from + l.trip-index;
      faults : first_fault l.number (map sent_in (drop l.trip-index l.trips)) (came_back out next l.slaves (map sent_in (drop l.trip-index l.trips)))
          ≡ first_fault l.from (map sent_in l.trips) (came_back out next l.fn.slaves (map sent_in l.trips));
      backs : bytes_in l.backs.items ++ came_back out next l.slaves (map sent_in (drop l.trip-index l.trips))
          ≡ came_back out next l.fn.slaves (map sent_in l.trips);
      slaves : slaves_after out next l.slaves (map sent_in (drop l.trip-index l.trips)) ≡ slaves_after out next l.fn.slaves (map sent_in l.trips);
    }
