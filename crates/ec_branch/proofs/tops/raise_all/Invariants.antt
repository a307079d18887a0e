use Rattle.std.proofs.Common.{◌≡◌, ◌<◌, length}
use Rattle.ec_branch.proofs.tops.raise_all.Given as goal

abbrev pub invariant-loop-tick : goal.invariant-loop-tick
invariant-loop-tick l =
    record {
      below : l.at < l.period;
      row : length l.row ≡ l.period;
    }
