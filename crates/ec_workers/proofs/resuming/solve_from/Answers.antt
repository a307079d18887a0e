use Rattle.ec_cert.specs.Shapes.{shape_of, cert_view}
use Rattle.std.proofs.Common.{refl}
use Rattle.ec_workers.specs.Answers.{asked_beyond, is_strong}
use Rattle.ec_workers.proofs.AnswerLemmas.{all_among}
use Rattle.ec_workers.proofs.ResumeLemmas.{all-rise}
use Rattle.ec_workers.proofs.resuming.solve_from.Goals as goal

pub returns-then-workers-eq1-clause-outcome : goal.returns-then-workers-eq1-clause-outcome
returns-then-workers-eq1-clause-outcome g c = all_among c.args.units.now.units c.args.units.now.slots (is_strong (cert_view c.args.cert)) c.args.workers c.args.nodes (shape_of c.args.cert.tree) c.args.part.count c.resume_alone.result c.resume_alone.ensures.outcome

pub returns-then-workers-eq1-clause-level : goal.returns-then-workers-eq1-clause-level
returns-then-workers-eq1-clause-level g c =
    all-rise c.law_levels_bound.ensures c.args.units.now.units c.args.units.now.slots (asked_beyond (is_strong (cert_view c.args.cert)) 1 c.args.nodes (shape_of c.args.cert.tree) c.args.part.count) (cert_view c.args.cert) c.args.nodes c.resume_alone.result
    c.requires.cert refl c.resume_alone.ensures.outcome c.resume_alone.ensures.order c.resume_alone.ensures.beyond

pub returns-clause-level : goal.returns-clause-level
returns-clause-level g c =
    all-rise c.law_levels_bound.ensures c.args.units.now.units c.args.units.now.slots (asked_beyond (is_strong (cert_view c.args.cert)) c.args.workers c.args.nodes (shape_of c.args.cert.tree) c.args.part.count) (cert_view c.args.cert) c.args.nodes c.resume_by_crew.result
    c.requires.cert refl c.resume_by_crew.ensures.outcome c.resume_by_crew.ensures.order c.resume_by_crew.ensures.beyond
