use Rattle.ec_loads.specs.Line.{line_of}
use Rattle.ec_branch.proofs.LeafLemmas.{average_leaf}
use Rattle.ec_branch.proofs.leaf.plain_leaf.Goals as goal

pub returns-then-average_bound : goal.returns-then-average_bound
returns-then-average_bound c =
    let h = c.args.loads.now in
    λ rules. average_leaf (line_of rules h) c.args.value h.places ((c.average_bound.ensures c.requires).0 c.if-average_bound.true)
