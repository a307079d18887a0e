use Rattle.std.proofs.Common.{◌≡◌, ◌≤◌, ◌++◌, take, map, length}
use Rattle.rtrb.specs.Ring.{sent, SameProducer}
use Rattle.ec_player.specs.Lines.{bytes_of}
use Rattle.ec_player.specs.Trips.{sent_in}
use Rattle.ec_player.specs.Boxes.{bytes_in}
use Rattle.ec_player_threads.proofs.rounds.send_all.Given as goal

abbrev pub invariant-loop : goal.invariant-loop
invariant-loop g l =
    SameProducer l.initial.first l.first × (l.count ≤ length l.trips)
    × (bytes_in (sent l.first) ≡ bytes_in (sent l.initial.first) ++ take l.count (bytes_of (map sent_in l.trips)))
