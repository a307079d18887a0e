use Rattle.ec_cli_run.proofs.PlanSound.{resume_true}
use Rattle.ec_cli_run.proofs.law.law_a_resumed_plan_is_true.Goals as goal

pub returns : goal.returns
returns c = resume_true c.law_levels_bound.ensures
