use Rattle.ec_branch.proofs.LeafLemmas.{short_top}
use Rattle.ec_branch.proofs.leaf.top_of.Goals as goal

pub returns-clause-short : goal.returns-clause-short
returns-clause-short c =
    let t = c.ticks-ticks in
    short_top c.args.loads.now t.result _ _ t.ensures.units t.ensures.value t.ensures.range c.top.ensures.busiest
