use Rattle.std.proofs.Common.{◌≡◌, ◌*◌, ◌≤◌}
use Rattle.ec_loads.specs.Weights.{weighted_raw}
use Rattle.ec_bounds.proofs.weight.weighted_raw.Given as goal

abbrev pub invariant-loop-i : goal.invariant-loop-i
invariant-loop-i l =
    record {
      sum : l.total ≡ weighted_raw l.loads.loads l.loads.slots l.loads.places l.weights l.i;
      bound : l.total ≤ 37718800320 * l.i;
    }
