use Rattle.std.proofs.Common.{◌≡◌, take}
use Rattle.ec_units.specs.Together.{stations_of}
use Rattle.test_plays.proofs.lines.stations_of.Given as goal

abbrev pub invariant-loop-unit : goal.invariant-loop-unit
invariant-loop-unit l = l.stations.items ≡ stations_of (take l.unit-index l.units)
