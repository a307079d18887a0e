use Rattle.std.proofs.Common.{◌≡◌, map, take, length, Some}
use Rattle.ec_loads.proofs.loads.Loads.at.Given as goal

abbrev pub invariant-loop-i : goal.invariant-loop-i
invariant-loop-i l =
    record {
      loads : l.loads.loads ≡ l.initial.loads.loads;
      slots : l.loads.slots ≡ l.initial.loads.slots;
      count : length l.loads.places ≡ length l.initial.loads.places;
      placed : length l.places ≡ length l.initial.loads.places → take l.i l.loads.places ≡ map Some (take l.i l.places);
    }
