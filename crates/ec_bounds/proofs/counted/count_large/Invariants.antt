use Rattle.std.proofs.Common.{◌≡◌, ◌≤◌, take, count_by}
use Rattle.ec_loads.specs.Rooms.{is_large}
use Rattle.ec_bounds.proofs.counted.count_large.Given as goal

abbrev pub invariant-loop-load : goal.invariant-loop-load
invariant-loop-load l =
    record {
      counted : l.count ≡ count_by (is_large l.period l.bytes) (take l.load-index l.left);
      few : l.count ≤ l.load-index;
    }
