use Rattle.std.proofs.Common.{◌≡◌, length, map, take, Some}
use Rattle.ec_branch.proofs.bettered.copy_places.Given as goal

abbrev pub invariant-loop-i : goal.invariant-loop-i
invariant-loop-i l =
    record {
      each : length l.to.items ≡ length l.from;
      copied : map Some (take l.i l.to.items) ≡ take l.i l.from;
    }
