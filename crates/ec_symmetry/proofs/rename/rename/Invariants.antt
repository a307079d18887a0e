use Rattle.std.proofs.Common.{◌≡◌, ◌≤◌, drop}
use Rattle.ec_symmetry.specs.Renamed.{renamed}
use Rattle.ec_symmetry.proofs.rename.rename.Given as goal

abbrev pub invariant-loop-unit : goal.invariant-loop-unit
invariant-loop-unit l =
    record {
      left : renamed l.used (drop l.unit-index l.order) l.places ≡ renamed 0 l.order l.initial.places;
      few : l.used ≤ 256;
    }
