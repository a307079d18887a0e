use Rattle.std.proofs.Common.{length, arith, ap, ◌∙◌}
use Rattle.ec_loads.specs.Cost.{items, sum_below, raw_cost}
use Rattle.ec_loads.proofs.ItemLemmas.{AreUnits-loads}
use Rattle.ec_loads.proofs.MoreLemmas.{items-length}
use Rattle.ec_loads.proofs.TrafficLemmas.{total-is, total-low, raws-low, small_cost}
use Rattle.ec_loads.proofs.loads.Loads.raw_total.Goals as goal

pub returns-clause-value : goal.returns-clause-value
returns-clause-value c =
    let s = c.self.inside in
    let inv = c.self.invariant in
    let xs = items s.loads.items s.places.items in
    let e =
    total-is xs s.slots (length s.table.costs.items) s.table.counts.items s.table.cells.items s.table.costs.items s.table.raws.items s.table.total s.table.payload s.table.cost inv.table ∙ ap (sum_below (raw_cost xs s.slots)) (inv.ticks ∙ inv.whole) in
    rw (← c.self.view_is) (omega (arith, e))

pub returns-clause-bound : goal.returns-clause-bound
returns-clause-bound c =
    let s = c.self.inside in
    let inv = c.self.invariant in
    let xs = items s.loads.items s.places.items in
    let all = AreUnits-loads s.loads.items s.places.items inv.units in
    let few = inv.few in
    let count = items-length s.loads.items s.places.items in
    let low = total-low xs s.slots (length s.table.costs.items) 575552 s.table.counts.items s.table.cells.items s.table.costs.items s.table.raws.items s.table.total s.table.payload s.table.cost inv.table
    (λ t h. let e = small_cost _ s.slots 8 71944 (raws-low xs s.slots (length s.table.costs.items) 48 s.table.counts.items s.table.cells.items s.table.costs.items s.table.raws.items s.table.total s.table.payload s.table.cost inv.table all (omega (arith, few, count)) t h) inv.slots in omega (arith, e)) in
    let is = inv.ticks in
    let short = c.ticks-ticks.ensures in
    omega (arith, low, is, short.value, short.range.1)
