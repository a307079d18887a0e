use Rattle.std.proofs.Common.{◌∙◌}
use Rattle.ec_branch.proofs.FirstLemmas.{placed_plan, offered}
use Rattle.ec_branch.proofs.bettered.offer.Goals as goal

pub copy_places-requires-clause-whole : goal.copy_places-requires-clause-whole
copy_places-requires-clause-whole c =
    let h = c.args.loads.now in
    let (plan, is, range) = placed_plan h.loads h.slots h.places c.requires.placed in
    (plan, c.places.ensures.value ∙ is)

pub returns-clause-best : goal.returns-clause-best
returns-clause-best c =
    offered c.args.loads.now c.args.best.now.places.items c.copy_places.new.to.items c.args.best.now.cost c.in-Some.cost c.limit_of.result c.requires.placed (c.copy_places.ensures ∙ c.places.ensures.value)
    c.in-Some.ensures c.limit_of.ensures c.if-cost-limit_of.false c.requires.best
