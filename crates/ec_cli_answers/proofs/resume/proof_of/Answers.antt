use Rattle.ec_cert.specs.Shapes.{cert_view}
use Rattle.ec_cli_answers.proofs.ResumeLemmas.{optimal_by, without_by}
use Rattle.ec_cli_answers.proofs.resume.proof_of.Goals as goal

pub returns-in_default-clause-outcome : goal.returns-in_default-clause-outcome
returns-in_default-clause-outcome c = λ asked.
    without_by c.law_faults_refute.ensures c.law_trees_bound.ensures c.law_levels_bound.ensures c.args.units.now.units c.args.units.now.slots (cert_view c.args.cert) c.requires.formed c.requires.right c.requires.proof c.in_default.is

pub returns-clause-outcome : goal.returns-clause-outcome
returns-clause-outcome c = λ asked.
    optimal_by c.law_faults_refute.ensures c.law_trees_bound.ensures c.law_levels_bound.ensures c.args.units.now.units c.args.units.now.slots (cert_view c.args.cert) c.in-Some.best c.in_ok-plan.plan.places c.requires.formed c.requires.right c.requires.proof c.in-Some.is c.in_ok-plan.ensures
