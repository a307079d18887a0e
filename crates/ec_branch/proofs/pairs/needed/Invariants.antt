use Rattle.std.proofs.Common.{◌≡◌, length}
use Rattle.ec_loads.specs.Search.{IsShortPair}
use Rattle.ec_branch.proofs.pairs.needed.Given as goal

abbrev pub invariant-loop-count : goal.invariant-loop-count
invariant-loop-count l =
    record {
      table : length l.rooms ≡ 60;
      short : IsShortPair l.pair;
    }
