use Rattle.std.proofs.Common.{◌≡◌, ◌*◌, ◌≤◌}
use Rattle.ec_loads.specs.Weights.{total_weight}
use Rattle.ec_bounds.proofs.weight.total_weight.Given as goal

abbrev pub invariant-loop-i : goal.invariant-loop-i
invariant-loop-i l = record { sum : l.total ≡ total_weight l.weights l.i; bound : l.total ≤ 65535 * l.i }
