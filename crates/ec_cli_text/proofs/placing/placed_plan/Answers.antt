use Rattle.std.proofs.Common.{inr}
use Rattle.ec_cli_text.proofs.PlacedLemmas.{illegal_plan, legal_plan}
use Rattle.ec_cli_text.proofs.placing.placed_plan.Goals as goal

pub returns-in-Ok-clause-ok : goal.returns-in-Ok-clause-ok
returns-in-Ok-clause-ok c = legal_plan c.args.units.now c.in_ok-plan.plan.places c.in_ok-plan.ensures.ok.0 c.in_ok-plan.ensures.ok.1 c.in-Ok.ensures.ok

pub returns-in-Err-clause-err : goal.returns-in-Err-clause-err
returns-in-Err-clause-err c = inr (illegal_plan c.args.units.now c.in_ok-plan.plan.places _ c.in_ok-plan.ensures.ok.0 c.in_ok-plan.ensures.ok.1 c.in-Err.ensures.err)
