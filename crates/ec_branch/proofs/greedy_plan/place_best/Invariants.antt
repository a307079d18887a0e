use Rattle.ec_branch.proofs.GreedyLemmas.{IsPlacing}
use Rattle.ec_branch.proofs.greedy_plan.place_best.Given as goal

abbrev pub invariant-loop-unit : goal.invariant-loop-unit
invariant-loop-unit l = IsPlacing l.initial.loads l.loads l.order l.unit-index
