use Rattle.std.proofs.Common.{drop}
use Rattle.std.specs.List.{AllZip}
use Rattle.ec_loads.specs.Cost.{items}
use Rattle.ec_loads.specs.Rooms.{IsNeededBy}
use Rattle.ec_bounds.proofs.grouped.all_needed.Given as goal

abbrev pub invariant-loop-i : goal.invariant-loop-i
invariant-loop-i g l =
    record {
      front : AllZip (IsNeededBy (items l.loads.loads l.loads.places) (g.T.Tops.tops l.tops) l.value l.left) l.periods l.pairs →
          AllZip (IsNeededBy (items l.loads.loads l.loads.places) (g.T.Tops.tops l.tops) l.value l.left) (drop l.i l.periods) (drop l.i l.pairs);
      back : AllZip (IsNeededBy (items l.loads.loads l.loads.places) (g.T.Tops.tops l.tops) l.value l.left) (drop l.i l.periods) (drop l.i l.pairs) →
          AllZip (IsNeededBy (items l.loads.loads l.loads.places) (g.T.Tops.tops l.tops) l.value l.left) l.periods l.pairs;
    }
