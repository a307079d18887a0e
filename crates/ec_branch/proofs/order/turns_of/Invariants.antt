use Rattle.std.proofs.Common.{◌≡◌, ◌+◌, All}
use Rattle.std.specs.List.{range_with_len}
use Rattle.ec_units.specs.Load.{loads_of}
use Rattle.ec_branch.specs.Weights.{weight}
use Rattle.ec_branch.proofs.TurnLemmas.{numbers_of}
use Rattle.ec_branch.proofs.order.turns_of.Given as goal

abbrev pub invariant-loop-i : goal.invariant-loop-i
invariant-loop-i l =
    record {
      units : numbers_of l.turns.items ≡ range_with_len 0 l.i;
      ranks : All (λ t. t.rank + weight (loads_of l.all) t.unit ≡ 4294967295) l.turns.items;
    }
