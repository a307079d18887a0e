use Rattle.std.proofs.Common.{◌≡◌, map, take}
use Rattle.ec_units.specs.Together.{names_of}
use Rattle.ec_cli_files.proofs.names.unit_names.Given as goal

abbrev pub invariant-loop-unit : goal.invariant-loop-unit
invariant-loop-unit l = map (λ n. n.now) l.names.items ≡ names_of (take l.unit-index l.units.units)
