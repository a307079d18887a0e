use Rattle.std.proofs.Common.{◌≡◌}
use Rattle.ec_branch.specs.FirstPlans.{ArePlaced}
use Rattle.ec_branch.proofs.bettered.place_all.Given as goal

abbrev pub invariant-loop-i : goal.invariant-loop-i
invariant-loop-i l =
    record {
      loads : l.loads.loads ≡ l.initial.loads.loads;
      slots : l.loads.slots ≡ l.initial.loads.slots;
      placed : ArePlaced l.loads.loads l.loads.slots l.loads.places l.i;
    }
