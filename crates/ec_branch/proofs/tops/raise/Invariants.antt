use Rattle.std.proofs.Common.{◌≡◌, ◌-◌, ◌<◌, length}
use Rattle.ec_branch.proofs.tops.raise.Given as goal

abbrev pub invariant-loop-tick : goal.invariant-loop-tick
invariant-loop-tick l =
    record {
      below : l.at < l.period;
      row : length l.row ≡ l.period;
    }

abbrev pub decreases-loop-tick : goal.decreases-loop-tick
decreases-loop-tick l = l.ticks - l.tick
