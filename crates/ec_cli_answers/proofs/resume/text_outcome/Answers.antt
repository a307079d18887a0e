use Rattle.std.proofs.Common.{rules}
use Rattle.ec_cert.specs.Shapes.{cert_view}
use Rattle.ec_cli_answers.proofs.ResumeLemmas.{goes_by_proof}
use Rattle.ec_cli_answers.proofs.resume.text_outcome.Goals as goal

pub returns-in_ok-proof_of-in_default-clause-ok : goal.returns-in_ok-proof_of-in_default-clause-ok
returns-in_ok-proof_of-in_default-clause-ok g c =
    let right = c.in_ok-cert.ensures.ok in
    let goes = goes_by_proof c.args.workers c.args.nodes c.args.part c.args.units.now (cert_view c.in_ok-cert.field-0.cert) c.in_ok-proof_of-in_default.field-0 right.1.certified
    c.in_ok-proof_of-in_default.ensures.none c.in_ok-proof_of-in_default.ensures.outcome c.in_ok-proof_of-in_default.ensures.own in
    (cert_view c.in_ok-cert.field-0.cert, right.0, goes)

pub returns-in_ok-solve_from-in-AtLeast-clause-ok : goal.returns-in_ok-solve_from-in-AtLeast-clause-ok
returns-in_ok-solve_from-in-AtLeast-clause-ok g c = search rules
