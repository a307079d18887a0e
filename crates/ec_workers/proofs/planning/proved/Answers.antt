use Rattle.ec_cert.specs.Shapes.{shape_of, cert_view}
use Rattle.std.proofs.Common.{ap}
use Rattle.ec_workers.proofs.AnswerLemmas.{without, optimal, fits, strong-of}
use Rattle.ec_workers.proofs.planning.proved.Goals as goal

pub copied-plan-requires-clause-wide : goal.copied-plan-requires-clause-wide
copied-plan-requires-clause-wide c = fits c.args.units.now.units c.args.units.now.slots c.args.best c.in-Some.best _ c.requires.found.best_is c.in-Some.is c.requires.room.wide

pub returns-in_default-clause-rules : goal.returns-in_default-clause-rules
returns-in_default-clause-rules c = strong-of c.args.strong (cert_view c.certificate-cert.result) (ap (λ v. v.version) c.certificate-cert.ensures)

pub returns-clause-rules : goal.returns-clause-rules
returns-clause-rules c = strong-of c.args.strong (cert_view c.certificate-cert-2.result) (ap (λ v. v.version) c.certificate-cert-2.ensures)

pub returns-in_default-clause-outcome : goal.returns-in_default-clause-outcome
returns-in_default-clause-outcome c = λ _.
    without c.law_faults_refute.ensures c.law_trees_bound.ensures c.args.units.now c.args.strong c.args.order c.args.best (shape_of c.args.tree) c.args.room.lines (cert_view c.certificate-cert.result) c.requires.found c.in_default.is c.requires.room.lines_are c.certificate-cert.ensures

pub returns-clause-outcome : goal.returns-clause-outcome
returns-clause-outcome c = λ _.
    optimal c.law_faults_refute.ensures c.law_trees_bound.ensures c.args.units.now c.args.strong c.args.order c.args.best (shape_of c.args.tree) c.args.room.lines (cert_view c.certificate-cert-2.result) c.in-Some.best c.copied-plan.result.places c.requires.found c.in-Some.is c.requires.room.lines_are c.copied-plan.ensures c.certificate-cert-2.ensures
