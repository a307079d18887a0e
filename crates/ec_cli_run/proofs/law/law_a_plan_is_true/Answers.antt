use Rattle.ec_cli_run.proofs.PlanSound.{plan_true}
use Rattle.ec_cli_run.proofs.law.law_a_plan_is_true.Goals as goal

pub returns : goal.returns
returns c = plan_true c.law_levels_bound.ensures
