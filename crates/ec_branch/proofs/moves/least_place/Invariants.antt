use Rattle.std.proofs.Common.{◌<◌}
use Rattle.ec_branch.proofs.moves.least_place.Given as goal

abbrev pub invariant-loop-far : goal.invariant-loop-far
invariant-loop-far l = (l.best.phase < l.load.period) × (l.best.slot < l.aim.width)
