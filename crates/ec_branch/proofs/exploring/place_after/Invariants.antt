use Rattle.std.proofs.Common.{◌≡◌, length, drop}
use Rattle.ec_symmetry.specs.Orders.{with_places}
use Rattle.ec_bounds.specs.Left.{IsRestOf}
use Rattle.ec_branch.proofs.exploring.place_after.Given as goal

abbrev pub invariant-loop-i : goal.invariant-loop-i
invariant-loop-i l =
    record {
      loads : l.loads.loads ≡ l.initial.loads.loads;
      slots : l.loads.slots ≡ l.initial.loads.slots;
      count : length l.loads.places ≡ length l.initial.loads.places;
      left : IsRestOf l.rest l.loads;
      places : with_places l.loads.places (drop l.i l.order) (drop l.i l.prefix) ≡ with_places l.initial.loads.places (drop l.kept l.order) (drop l.kept l.prefix);
    }
