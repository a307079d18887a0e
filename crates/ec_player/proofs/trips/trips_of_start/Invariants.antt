use Rattle.std.proofs.Common.{◌≡◌, ◌++◌, map, drop}
use Rattle.ec_player.specs.Trips.{sent_in, starts_from}
use Rattle.ec_player.proofs.trips.trips_of_start.Given as goal

abbrev pub invariant-loop-i : goal.invariant-loop-i
invariant-loop-i l =
    map sent_in l.trips.items ++ starts_from l.i l.slaves (map (λ frame. frame.items) (drop l.i l.frames))
    ≡ starts_from 0 l.slaves (map (λ frame. frame.items) l.frames)
