use Rattle.std.proofs.Common.{arith, refl, ap, ◌∙◌}
use Rattle.std.proofs.lemmas.Grind.{get_or_default_zero}
use Rattle.ec_loads.specs.Cost.{items, tick_cost}
use Rattle.ec_loads.proofs.ItemLemmas.{DivideAll-loads}
use Rattle.ec_loads.proofs.CostLemmas.{tick_cost-mod}
use Rattle.ec_loads.proofs.loads.Loads.cost.Goals as goal

pub index-requires : goal.index-requires
index-requires c =
    let s = c.self.inside in
    let inv = c.self.invariant in
    let xs = items s.loads.items s.places.items in
    let b = rw (← c.self.view_is) at c.row-row.ensures.bound in
    let is = inv.ticks ∙ inv.whole in
    let size = inv.table.size.3 in
    omega (arith, b, is, size, s.table.costs.ok.0)

pub returns-clause-value : goal.returns-clause-value
returns-clause-value c =
    let s = c.self.inside in
    let inv = c.self.invariant in
    let xs = items s.loads.items s.places.items in
    let v = rw (← c.self.view_is) at c.row-row.ensures.value in
    let b = rw (← c.self.view_is) at c.row-row.ensures.bound in
    let is = inv.ticks ∙ inv.whole in
    let size = inv.table.size.3 in
    rw (← c.self.view_is)
    (c.from.ensures ∙ c.index.ensures ∙ get_or_default_zero s.table.costs.items c.row-row.result _ (omega (arith, b, is, size))
    ∙ inv.table.cost c.row-row.result (omega (arith, b, is)) ∙ ap (tick_cost xs s.slots) v
    ∙ tick_cost-mod xs s.slots _ c.args.tick (DivideAll-loads s.loads.items s.places.items _ inv.units refl))

pub returns-clause-bound : goal.returns-clause-bound
returns-clause-bound c =
    let s = c.self.inside in
    let inv = c.self.invariant in
    let xs = items s.loads.items s.places.items in
    let b = rw (← c.self.view_is) at c.row-row.ensures.bound in
    let is = inv.ticks ∙ inv.whole in
    let size = inv.table.size.3 in
    let e = c.from.ensures ∙ c.index.ensures ∙ get_or_default_zero s.table.costs.items c.row-row.result _ (omega (arith, b, is, size)) in
    let l = inv.table.most_cost c.row-row.result (omega (arith, b, is)) in
    omega (arith, e, l, s.table.limits.1)
