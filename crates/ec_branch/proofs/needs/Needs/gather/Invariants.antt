use Rattle.std.proofs.Common.{◌≤◌}
use Rattle.ec_branch.proofs.needs.Needs.gather.Given as goal

abbrev pub invariant-loop-i : goal.invariant-loop-i
invariant-loop-i l = l.count ≤ 48
