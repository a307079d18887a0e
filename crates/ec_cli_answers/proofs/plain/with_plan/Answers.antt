use Rattle.std.proofs.lemmas.Result.{IfOk-at_ok}
use Rattle.ec_cli_answers.specs.Told.{HasNoCert}
use Rattle.ec_cli_answers.specs.declared.told.Told.{Told}
use Rattle.ec_cli_answers.proofs.ToldLemmas.{other_plan}
use Rattle.ec_cli_answers.proofs.plain.with_plan.Goals as goal

pub returns-clause-plan : goal.returns-clause-plan
returns-clause-plan c = other_plan c.in_ok-old.old.file c.args.chosen.plan (IfOk-at_ok (λ (t : Told). HasNoCert t.file) c.in_ok-old.was c.requires.kind)
