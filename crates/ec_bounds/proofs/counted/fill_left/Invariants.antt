use Rattle.std.proofs.Common.{◌≡◌, ◌≤◌, ◌++◌, take, drop, length}
use Rattle.ec_bounds.specs.Left.{left_loads}
use Rattle.ec_bounds.proofs.counted.fill_left.Given as goal

abbrev pub invariant-loop-i : goal.invariant-loop-i
invariant-loop-i l =
    record {
      room : length l.table ≡ 48;
      count : l.count ≤ l.i;
      copied : take l.count l.table ++ left_loads (drop l.i l.all) (drop l.i l.flags) ≡ left_loads l.all l.flags;
    }
