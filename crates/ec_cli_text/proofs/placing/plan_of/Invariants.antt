use Rattle.std.proofs.Common.{◌≡◌, ◌++◌, map, drop, length}
use Rattle.ec_units.specs.Views.{unit_view}
use Rattle.ec_cli_text.specs.Plans.{places_of}
use Rattle.ec_cli_text.proofs.PlaceLemmas.{unplaced_from}
use Rattle.ec_cli_text.proofs.placing.plan_of.Given as goal

abbrev pub invariant-loop-i : goal.invariant-loop-i
invariant-loop-i l =
    record {
      count : length l.places.items ≡ l.i;
      unplaced : unplaced_from l.i (drop l.i l.all) ≡ unplaced_from 0 l.all;
      placed : l.places.items ++ places_of (map unit_view (drop l.i l.all)) ≡ places_of (map unit_view l.all);
    }
