use Rattle.std.proofs.Common.{◌≡◌, ◌++◌, drop, map}
use Rattle.ec_units.specs.Views.{unit_view}
use Rattle.ec_frame_text.specs.Lines.{stations_in}
use Rattle.ec_frame_text.proofs.stations.stations_of.Given as goal

abbrev pub invariant-loop-unit : goal.invariant-loop-unit
invariant-loop-unit l = l.stations.items ++ stations_in (map unit_view (drop l.unit-index l.units)) ≡ stations_in (map unit_view l.units)
