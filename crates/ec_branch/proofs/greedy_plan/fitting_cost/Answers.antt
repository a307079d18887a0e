use Rattle.std.proofs.Common.{rules}
use Rattle.ec_branch.proofs.greedy_plan.fitting_cost.Goals as goal

pub returns-in-Some : goal.returns-in-Some
returns-in-Some c = search rules
