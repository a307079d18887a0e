use Rattle.std.proofs.Common.{◌≡◌, ◌≤◌, length}
use Rattle.ec_loads.specs.Weights.{weight_at, least_below}
use Rattle.ec_bounds.proofs.weight.least_weight.Given as goal

abbrev pub invariant-loop-phase : goal.invariant-loop-phase
invariant-loop-phase l =
    record {
      some : 1 ≤ l.phase;
      least : l.least ≡ least_below (weight_at l.weights (length l.weights) l.period) l.phase;
      bound : l.least ≤ 67107840;
    }
