use Rattle.ec_cert.specs.Shapes.{cert_view}
use Rattle.ec_cli_answers.specs.Merged.{IsMergeOf}
use Rattle.ec_cli_answers.proofs.PlanLemmas.{all_handed, all_written}
use Rattle.ec_cli_answers.proofs.merges.tell_merged.Goals as goal

pub returns-clause-told : goal.returns-clause-told
returns-clause-told c = λ bytes read.
    let o = c.in_ok-outcome.ensures in
    all_written (IsMergeOf bytes (cert_view c.args.cert)) c.args.units.now c.in_ok-outcome.outcome c.tell_outcome.result
    (record { read = read; right = c.requires.right; best = o.best; tree = o.tree; value = o.value; order = o.order; rules = o.rules; level = o.level; proof = o.proof; why = o.cut; asked = o.outcome.0; answer = o.outcome.1 })
    c.tell_outcome.ensures.ok

pub returns-clause-hands : goal.returns-clause-hands
returns-clause-hands c = λ bytes read.
    let o = c.in_ok-outcome.ensures in
    all_handed (IsMergeOf bytes (cert_view c.args.cert)) c.args.units.now c.in_ok-outcome.outcome c.tell_outcome.result
    (record { read = read; right = c.requires.right; best = o.best; tree = o.tree; value = o.value; order = o.order; rules = o.rules; level = o.level; proof = o.proof; why = o.cut; asked = o.outcome.0; answer = o.outcome.1 })
    c.tell_outcome.ensures.ok
