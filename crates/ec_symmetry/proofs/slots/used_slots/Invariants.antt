use Rattle.std.proofs.Common.{◌≡◌, ◌≤◌, length, take}
use Rattle.ec_loads.specs.Search.{different_numbers}
use Rattle.ec_symmetry.proofs.SlotLemmas.{slots_of, AreSeen}
use Rattle.ec_symmetry.proofs.slots.used_slots.Given as goal

abbrev pub invariant-loop-i : goal.invariant-loop-i
invariant-loop-i l =
    record {
      room : length l.seen ≡ 256;
      flags : AreSeen l.seen (slots_of (take l.i l.places));
      so_far : l.count ≡ different_numbers (slots_of (take l.i l.places));
      bound : l.count ≤ l.i;
    }
