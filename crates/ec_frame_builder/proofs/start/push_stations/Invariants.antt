use Rattle.std.proofs.Common.{◌≡◌, ◌++◌, map, take}
use Rattle.ec_frame_builder.proofs.start.push_stations.Given as goal

abbrev pub invariant-loop-slave : goal.invariant-loop-slave
invariant-loop-slave l = l.stations.items ≡ l.initial.stations.items ++ map (λ s. s.station) (take l.slave-index l.slaves)
