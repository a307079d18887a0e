use Rattle.std.proofs.Common.{◌≡◌, ◌++◌, List, length}
use Rattle.ec_units.specs.declared.slave.Place.{Place}
use Rattle.ec_branch.proofs.GreedyLemmas.{BestSoFar}
use Rattle.ec_branch.proofs.greedy_plan.best_among.Given as goal

abbrev pub decreases-loop-place : goal.decreases-loop-place
decreases-loop-place l = length l.left

abbrev pub invariant-loop-place : goal.invariant-loop-place
invariant-loop-place l =
    let h = l.fn.loads in
    record {
      same : l.loads ≡ h;
      best : (seen : List Place) × (seen ++ l.left ≡ l.fn.places) × BestSoFar h.loads h.slots h.places l.unit seen l.best;
    }
