use Rattle.std.proofs.Common.{length, ap, ◌∙◌, arith}
use Rattle.std.proofs.lemmas.List.{take_all}
use Rattle.ec_branch.proofs.WalkLemmas.{all_some, same_plan}
use Rattle.ec_branch.proofs.plan.plan_of.Goals as goal

pub returns-in-None-clause-none : goal.returns-in-None-clause-none
returns-in-None-clause-none c =
    λ ps whole. all_some ps c.places-from.result.now c.loop-i.i (c.places-from.ensures.value ∙ whole) c.loop-i-test.true c.in-None.is

pub returns-clause-none : goal.returns-clause-none
returns-clause-none c =
    λ ps whole.
    let read = ap length c.places-from.ensures.value in
    c.new.ensures ∙ same_plan c.loop-i.places.items ps (c.loop-i.invariant ∙ take_all c.loop-i.i c.args.loads.now.places (omega (arith, c.loop-i-test.false, read)) ∙ whole)
