use Rattle.std.proofs.Common.{◌≡◌, ◌+◌, ◌*◌, ◌≤◌, drop}
use Rattle.ec_loads.specs.Rooms.{group_bytes}
use Rattle.ec_bounds.proofs.grouped.group_bytes.Given as goal

abbrev pub invariant-loop-i : goal.invariant-loop-i
invariant-loop-i l =
    record {
      sum : l.total + group_bytes l.ticks (drop l.i l.periods) (drop l.i l.pairs) ≡ group_bytes l.ticks l.periods l.pairs;
      bound : l.total ≤ 805294080 * l.i;
    }
