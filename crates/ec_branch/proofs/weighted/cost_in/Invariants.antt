use Rattle.std.proofs.Common.{◌-◌}
use Rattle.ec_branch.proofs.weighted.cost_in.Given as goal

abbrev pub decreases-loop-tick : goal.decreases-loop-tick
decreases-loop-tick l = l.ticks - l.tick
