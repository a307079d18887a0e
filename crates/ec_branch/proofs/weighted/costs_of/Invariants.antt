use Rattle.std.proofs.Common.{◌≡◌, ◌≤◌, All, length, vec_capacity}
use Rattle.ec_branch.proofs.weighted.costs_of.Given as goal

abbrev pub invariant-loop-tick : goal.invariant-loop-tick
invariant-loop-tick l =
    record {
      count : length l.weights.items ≡ l.tick;
      each : All (λ x. x ≤ 65535) l.weights.items;
      room : l.ticks ≤ vec_capacity l.weights;
    }
