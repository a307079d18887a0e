use Rattle.std.proofs.Common.{◌≡◌, IfOk, subst}
use Rattle.ec_cert.specs.Shapes.{cert_view}
use Rattle.ec_workers.specs.Answers.{HasOrder, HasRules, tree_in}
use Rattle.ec_cert_merge.proofs.OutcomeLemmas.{for-any, level-kept, levels-kept}
use Rattle.ec_cert_merge.proofs.proving.outcome_of.Goals as goal

pub returns-clause-outcome : goal.returns-clause-outcome
returns-clause-outcome c = for-any c.args.units.now.units c.args.units.now.slots c.proved.result c.proved.ensures.outcome

pub returns-then-not-is_closed-clause-level : goal.returns-then-not-is_closed-clause-level
returns-then-not-is_closed-clause-level c = λ l is.
    level-kept c.law_levels_bound.ensures c.args.units.now.units c.args.units.now.slots (cert_view c.args.cert) c.unproved.ensures.outcome.0 c.unproved.result l c.requires c.unproved.ensures.outcome.1 c.unproved.ensures.order c.unproved.ensures.rules c.unproved.ensures.tree is

pub returns-clause-rules : goal.returns-clause-rules
returns-clause-rules c = subst (λ b. IfOk c.proved.result (HasRules b)) c.settled.ensures.rules c.proved.ensures.rules

pub returns-clause-level : goal.returns-clause-level
returns-clause-level c =
    levels-kept c.law_levels_bound.ensures c.args.units.now.units c.args.units.now.slots (cert_view c.args.cert) c.proved.result c.requires c.proved.ensures.outcome (subst (λ o. IfOk c.proved.result (HasOrder o)) c.settled.ensures.order c.proved.ensures.order)
    (subst (λ b. IfOk c.proved.result (HasRules b)) c.settled.ensures.rules c.proved.ensures.rules) (subst (λ t. IfOk c.proved.result (λ o. tree_in o ≡ t)) c.settled.ensures.tree c.proved.ensures.tree)
