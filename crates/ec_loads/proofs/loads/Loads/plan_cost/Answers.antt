use Rattle.std.proofs.Common.{map, Some}
use Rattle.ec_loads.proofs.ItemLemmas.{DivideAll-loads}
use Rattle.ec_loads.proofs.loads.Loads.plan_cost.Goals as goal

pub check_items-requires-clause-whole : goal.check_items-requires-clause-whole
check_items-requires-clause-whole c =
    rw c.fill_loads-filled.ensures.items
    (rw c.loads-all.ensures.value
    (DivideAll-loads c.args.self.now.loads (map Some c.args.places.now) c.ticks-ticks.result c.ticks-ticks.ensures.units c.ticks-ticks.ensures.value))

pub busiest_below-busiest-requires-clause-whole : goal.busiest_below-busiest-requires-clause-whole
busiest_below-busiest-requires-clause-whole c =
    rw c.fill_loads-filled.ensures.items
    (rw c.loads-all.ensures.value
    (DivideAll-loads c.args.self.now.loads (map Some c.args.places.now) c.ticks-ticks.result c.ticks-ticks.ensures.units c.ticks-ticks.ensures.value))
