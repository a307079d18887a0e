use Rattle.std.proofs.Common.{◌≡◌, drop}
use Rattle.toml.specs.View.{items_view}
use Rattle.ec_unit_text.specs.UnitText.{has_station}
use Rattle.ec_unit_text.proofs.judge.has_station.Given as goal

abbrev pub invariant-loop-slave : goal.invariant-loop-slave
invariant-loop-slave l = has_station l.station (items_view (drop l.slave-index l.slaves)) ≡ has_station l.station (items_view l.slaves)
