use Rattle.std.proofs.Common.{◌≡◌, take}
use Rattle.ec_units.specs.Together.{stations_of}
use Rattle.ec_frame_builder.proofs.start.stations_of.Given as goal

abbrev pub invariant-loop-unit : goal.invariant-loop-unit
invariant-loop-unit l = l.stations.items ≡ stations_of (take l.unit-index l.units)
