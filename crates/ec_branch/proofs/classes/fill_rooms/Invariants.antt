use Rattle.std.proofs.Common.{◌≡◌, ◌*◌, ◌≤◌, length}
use Rattle.ec_branch.proofs.classes.fill_rooms.Given as goal

abbrev pub invariant-loop-i : goal.invariant-loop-i
invariant-loop-i l =
    record {
      table : length l.rooms ≡ 60;
      shut : l.sums.closed ≤ l.i * 100000;
      unused : l.sums.«open» ≤ l.i * 100000;
      counted : l.sums.count ≤ l.i;
    }
