use Rattle.std.proofs.Common.{◌≡◌, length}
use Rattle.ec_branch.specs.FirstPlans.{AreAllPlaced, IsBestSoFar}
use Rattle.ec_branch.proofs.bettered.go.Given as goal

abbrev pub invariant-loop : goal.invariant-loop
invariant-loop l =
    record {
      loads : l.loads.loads ≡ l.initial.loads.loads;
      slots : l.loads.slots ≡ l.initial.loads.slots;
      placed : AreAllPlaced l.loads.loads l.loads.slots l.loads.places;
      each : length l.best.places.items ≡ length l.loads.loads;
      best : IsBestSoFar l.loads.loads l.loads.slots l.best.cost l.best.places.items;
    }
