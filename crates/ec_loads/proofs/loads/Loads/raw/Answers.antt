use Rattle.std.proofs.Common.{length, arith, refl, ap, ◌∙◌}
use Rattle.std.proofs.lemmas.Grind.{get_or_default_zero}
use Rattle.ec_loads.specs.Cost.{items, raw_cost}
use Rattle.ec_loads.proofs.ItemLemmas.{AreUnits-loads, DivideAll-loads}
use Rattle.ec_loads.proofs.CostLemmas.{raw_cost-mod}
use Rattle.ec_loads.proofs.MoreLemmas.{items-length}
use Rattle.ec_loads.proofs.TrafficLemmas.{raws-low, small_cost}
use Rattle.ec_loads.proofs.loads.Loads.raw.Goals as goal

pub index-requires : goal.index-requires
index-requires c =
    let s = c.self.inside in
    let inv = c.self.invariant in
    let xs = items s.loads.items s.places.items in
    let b = rw (← c.self.view_is) at c.row-row.ensures.bound in
    let is = inv.ticks ∙ inv.whole in
    let size = inv.table.size.3 in
    omega (arith, b, is, size, s.table.raws.ok.0)

pub returns-clause-value : goal.returns-clause-value
returns-clause-value c =
    let s = c.self.inside in
    let inv = c.self.invariant in
    let xs = items s.loads.items s.places.items in
    let v = rw (← c.self.view_is) at c.row-row.ensures.value in
    let b = rw (← c.self.view_is) at c.row-row.ensures.bound in
    let is = inv.ticks ∙ inv.whole in
    let size = inv.table.size.3 in
    rw (← c.self.view_is)
    (c.from.ensures ∙ c.index.ensures ∙ get_or_default_zero s.table.raws.items c.row-row.result _ (omega (arith, b, is, size))
    ∙ inv.table.raw c.row-row.result (omega (arith, b, is)) ∙ ap (raw_cost xs s.slots) v
    ∙ raw_cost-mod xs s.slots _ c.args.tick (DivideAll-loads s.loads.items s.places.items _ inv.units refl))

pub returns-clause-bound : goal.returns-clause-bound
returns-clause-bound c =
    let s = c.self.inside in
    let inv = c.self.invariant in
    let xs = items s.loads.items s.places.items in
    let b = rw (← c.self.view_is) at c.row-row.ensures.bound in
    let is = inv.ticks ∙ inv.whole in
    let size = inv.table.size.3 in
    let e = c.from.ensures ∙ c.index.ensures ∙ get_or_default_zero s.table.raws.items c.row-row.result _ (omega (arith, b, is, size)) in
    let all = AreUnits-loads s.loads.items s.places.items inv.units in
    let few = inv.few in
    let count = items-length s.loads.items s.places.items in
    let l = small_cost _ s.slots 8 71944 (raws-low xs s.slots (length s.table.costs.items) 48 s.table.counts.items s.table.cells.items s.table.costs.items s.table.raws.items s.table.total s.table.payload s.table.cost inv.table all (omega (arith, few, count)) c.row-row.result (omega (arith, b, is))) inv.slots in
    omega (arith, e, l)
