use Rattle.std.proofs.Common.{rules}
use Rattle.ec_loads.proofs.ItemLemmas.{DivideAll-loads}
use Rattle.ec_loads.proofs.plain.plain_full.Goals as goal

pub first_full-requires-clause-whole : goal.first_full-requires-clause-whole
first_full-requires-clause-whole c =
    rw c.fill-count.ensures.items
    (rw (c.loads.ensures.value, c.places.ensures.value)
    (DivideAll-loads c.args.loads.now.loads c.args.loads.now.places c.ticks.result c.ticks.ensures.units c.ticks.ensures.value))

pub returns-in-Some : goal.returns-in-Some
returns-in-Some c = search rules
