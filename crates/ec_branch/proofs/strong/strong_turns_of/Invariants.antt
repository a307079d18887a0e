use Rattle.std.proofs.Common.{◌≡◌, All, get_or}
use Rattle.std.specs.List.{range_with_len}
use Rattle.ec_units.specs.Load.{loads_of}
use Rattle.ec_loads.specs.Search.{nobody}
use Rattle.ec_branch.specs.Turns.{IsStrongRank}
use Rattle.ec_branch.proofs.TurnLemmas.{numbers_of}
use Rattle.ec_branch.proofs.strong.strong_turns_of.Given as goal

abbrev pub invariant-loop-i : goal.invariant-loop-i
invariant-loop-i l =
    record {
      units : numbers_of l.turns.items ≡ range_with_len 0 l.i;
      ranks : All (λ t. IsStrongRank (get_or (loads_of l.all) t.unit nobody) t.rank) l.turns.items;
    }
