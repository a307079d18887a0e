use Rattle.std.proofs.Common.{◌≡◌, take, map, length, Some}
use Rattle.ec_loads.proofs.table.fill_places.Given as goal

abbrev pub invariant-loop-i : goal.invariant-loop-i
invariant-loop-i l =
    record {
      room : length l.table ≡ 48;
      copied : take l.i l.table ≡ map Some (take l.i l.places);
    }
