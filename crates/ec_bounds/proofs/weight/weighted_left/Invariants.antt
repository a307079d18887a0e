use Rattle.std.proofs.Common.{◌≡◌, ◌+◌, ◌*◌, ◌≤◌, length, drop}
use Rattle.ec_bounds.specs.Left.{weighted_left, AreLeast}
use Rattle.ec_bounds.proofs.weight.weighted_left.Given as goal

abbrev pub invariant-loop-i : goal.invariant-loop-i
invariant-loop-i l =
    record {
      sum : l.total + weighted_left (drop l.i l.loads) (drop l.i l.unplaced) l.weights (length l.weights) ≡ weighted_left l.loads l.unplaced l.weights (length l.weights);
      bound : l.total ≤ 99722250240 * l.i;
      known : AreLeast l.weights l.known;
    }
