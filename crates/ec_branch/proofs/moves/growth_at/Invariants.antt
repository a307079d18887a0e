use Rattle.std.proofs.Common.{◌-◌, ◌≤◌}
use Rattle.ec_branch.proofs.moves.growth_at.Given as goal

abbrev pub invariant-loop-tick : goal.invariant-loop-tick
invariant-loop-tick l = l.tick ≤ 65535

abbrev pub decreases-loop-tick : goal.decreases-loop-tick
decreases-loop-tick l = l.ticks - l.tick
