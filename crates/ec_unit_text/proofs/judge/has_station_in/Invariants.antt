use Rattle.std.proofs.Common.{◌≡◌, drop}
use Rattle.toml.specs.View.{items_view}
use Rattle.ec_unit_text.specs.UnitText.{has_station_in}
use Rattle.ec_unit_text.proofs.judge.has_station_in.Given as goal

abbrev pub invariant-loop-unit : goal.invariant-loop-unit
invariant-loop-unit l = has_station_in l.station (items_view (drop l.unit-index l.units)) ≡ has_station_in l.station (items_view l.units)
