use Rattle.std.proofs.Common.{◌≤◌, All, length}
use Rattle.ec_loads.specs.Search.{IsShortPair}
use Rattle.ec_branch.proofs.pairs.pairs_of.Given as goal

abbrev pub invariant-loop-number : goal.invariant-loop-number
invariant-loop-number l =
    record {
      few : length l.pairs.items ≤ 48;
      short : All IsShortPair l.pairs.items;
    }
