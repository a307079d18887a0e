use Rattle.ec_cli_run.proofs.PlanSound.{least_each}
use Rattle.ec_cli_run.proofs.law.law_one_least_each.Goals as goal

pub returns : goal.returns
returns c = least_each c.law_levels_bound.ensures
