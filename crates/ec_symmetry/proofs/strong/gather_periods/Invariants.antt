use Rattle.std.proofs.Common.{◌≡◌, ◌≤◌, take, length}
use Rattle.ec_loads.specs.Strong.{placed_periods}
use Rattle.ec_symmetry.proofs.strong.gather_periods.Given as goal

abbrev pub invariant-loop-i : goal.invariant-loop-i
invariant-loop-i l =
    record {
      room : length l.periods ≡ 48;
      count : l.count ≤ l.i;
      copied : take l.count l.periods ≡ placed_periods (take l.i l.loads) (take l.i l.places);
    }
