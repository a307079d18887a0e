use Rattle.std.proofs.Common.{rules}
use Rattle.ec_loads.proofs.ItemLemmas.{DivideAll-loads}
use Rattle.ec_loads.proofs.plain.plain_top.Goals as goal

pub busiest_below-requires-clause-whole : goal.busiest_below-requires-clause-whole
busiest_below-requires-clause-whole c =
    rw c.fill-count.ensures.items
    (rw (c.loads.ensures.value, c.places.ensures.value)
    (DivideAll-loads c.args.loads.now.loads c.args.loads.now.places c.ticks.result c.ticks.ensures.units c.ticks.ensures.value))

pub returns-clause-busiest : goal.returns-clause-busiest
returns-clause-busiest c = search rules
