use Rattle.ec_cert.specs.Shapes.{cert_view}
use Rattle.ec_cert_merge.proofs.OutcomeLemmas.{without-plan, optimal-plan}
use Rattle.ec_cert_merge.proofs.proving.proved.Goals as goal

pub returns-in-None-clause-outcome : goal.returns-in-None-clause-outcome
returns-in-None-clause-outcome c = λ _. without-plan c.law_faults_refute.ensures c.law_trees_bound.ensures c.args.units.now.units c.args.units.now.slots (cert_view c.args.cert) c.requires.proven c.requires.level c.in-None.is

pub returns-clause-outcome : goal.returns-clause-outcome
returns-clause-outcome c = λ _.
    optimal-plan c.law_faults_refute.ensures c.law_trees_bound.ensures c.args.units.now.units c.args.units.now.slots (cert_view c.args.cert) c.in-Some.best c.in_ok-copied-in-Some.field-0.places c.requires.proven c.requires.level c.in-Some.is c.in_ok-copied-in-Some.ensures
