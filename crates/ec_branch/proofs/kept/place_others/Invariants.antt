use Rattle.std.proofs.Common.{◌≡◌, length}
use Rattle.ec_branch.specs.Kept.{Keeps}
use Rattle.ec_branch.proofs.kept.place_others.Given as goal

abbrev pub invariant-loop-unit : goal.invariant-loop-unit
invariant-loop-unit l =
    record {
      kept : Keeps l.initial.loads.places l.loads.places;
      len : length l.loads.places ≡ length l.initial.loads.places;
    }
