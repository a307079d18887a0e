use Rattle.std.proofs.Common.{rules}
use Rattle.ec_branch.proofs.greedy_plan.better.Goals as goal

pub returns-then-cost-choice-clause-kept : goal.returns-then-cost-choice-clause-kept
returns-then-cost-choice-clause-kept c = search rules
