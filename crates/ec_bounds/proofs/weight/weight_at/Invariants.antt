use Rattle.std.proofs.Common.{◌≡◌, ◌+◌, ◌-◌, ◌*◌, ◌%◌, ◌≤◌, min, length}
use Rattle.ec_loads.specs.Weights.{weight_at}
use Rattle.ec_bounds.proofs.weight.weight_at.Given as goal

abbrev pub invariant-loop-tick : goal.invariant-loop-tick
invariant-loop-tick l =
    record {
      turn : l.tick % l.period ≡ l.phase;
      sum : l.total ≡ weight_at l.weights l.tick l.period l.phase;
      near : l.tick ≤ length l.weights + 60;
      bound : l.total ≤ 65535 * min l.tick (length l.weights);
    }

abbrev pub decreases-loop-tick : goal.decreases-loop-tick
decreases-loop-tick l = length l.weights - l.tick
