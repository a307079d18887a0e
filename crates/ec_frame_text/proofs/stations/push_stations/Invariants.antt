use Rattle.std.proofs.Common.{◌≡◌, ◌++◌, drop, map}
use Rattle.ec_units.specs.Views.{slave_view}
use Rattle.ec_frame_text.proofs.stations.push_stations.Given as goal

abbrev pub invariant-loop-slave : goal.invariant-loop-slave
invariant-loop-slave l = l.stations.items ++ map (λ s. s.station) (map slave_view (drop l.slave-index l.slaves)) ≡ l.initial.stations.items ++ map (λ s. s.station) (map slave_view l.slaves)
