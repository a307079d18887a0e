use Rattle.std.proofs.Common.{arith, refl, ◌∙◌}
use Rattle.ec_loads.specs.Cost.{items}
use Rattle.ec_loads.proofs.ItemLemmas.{DivideAll-loads}
use Rattle.ec_loads.proofs.TrafficLemmas.{cheap-below}
use Rattle.ec_loads.proofs.loads.Loads.first_at_least.Goals as goal

pub returns-then-from-value : goal.returns-then-from-value
returns-then-from-value c =
    let s = c.self.inside in
    let inv = c.self.invariant in
    let is = inv.ticks ∙ inv.whole in
    let h = c.ticks-ticks.ensures in
    rw (← c.self.view_is)
    (cheap-below (items s.loads.items s.places.items) s.slots _ c.args.value (let w = inv.whole in omega (arith, h.value, h.range.0, w)) (DivideAll-loads s.loads.items s.places.items _ inv.units refl)
    (λ i l. let e = inv.table.cost i (omega (arith, is, l)) in let m = inv.table.most_cost i (omega (arith, is, l)) in let f = c.if-from-value.true in omega (arith, e, m, f, c.from.ensures)))

pub returns-in-None : goal.returns-in-None
returns-in-None c =
    let s = c.self.inside in
    let inv = c.self.invariant in
    let is = inv.ticks ∙ inv.whole in
    let h = c.ticks-ticks.ensures in
    let none = rw c.as_slice.ensures.value at c.in-None.ensures in
    rw (← c.self.view_is)
    (cheap-below (items s.loads.items s.places.items) s.slots _ c.args.value (let w = inv.whole in omega (arith, h.value, h.range.0, w)) (DivideAll-loads s.loads.items s.places.items _ inv.units refl)
    (λ i l. let e = inv.table.cost i (omega (arith, is, l)) in let f = none i (omega (arith, is, l)) in omega (arith, e, f)))
