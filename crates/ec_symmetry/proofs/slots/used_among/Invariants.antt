use Rattle.std.proofs.Common.{◌≡◌, ◌≤◌, length, take}
use Rattle.ec_loads.specs.Search.{different_numbers, slots_in}
use Rattle.ec_symmetry.proofs.SlotLemmas.{AreSeen}
use Rattle.ec_symmetry.proofs.slots.used_among.Given as goal

abbrev pub invariant-loop-i : goal.invariant-loop-i
invariant-loop-i l =
    record {
      room : length l.taken ≡ 256;
      flags : AreSeen l.taken (slots_in (take l.i l.places));
      so_far : l.count ≡ different_numbers (slots_in (take l.i l.places));
      bound : l.count ≤ l.i;
    }
