use Rattle.std.proofs.Common.{◌≡◌, take, length}
use Rattle.ec_loads.specs.Held.{own_places}
use Rattle.ec_loads.proofs.loads.Loads.placed.Given as goal

abbrev pub invariant-loop-i : goal.invariant-loop-i
invariant-loop-i l =
    record {
      loads : l.loads.loads ≡ l.initial.loads.loads;
      slots : l.loads.slots ≡ l.initial.loads.slots;
      count : length l.loads.places ≡ length l.all;
      placed : take l.i l.loads.places ≡ own_places (take l.i l.all);
    }
