use Rattle.std.proofs.Common.{◌≡◌, map, take, Some}
use Rattle.ec_branch.proofs.plan.plan_of.Given as goal

abbrev pub invariant-loop-i : goal.invariant-loop-i
invariant-loop-i l = map Some l.places.items ≡ take l.i l.loads.places
