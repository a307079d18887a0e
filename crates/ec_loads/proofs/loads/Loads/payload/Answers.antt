use Rattle.std.proofs.Common.{◌≡◌, ◌+◌, ◌*◌, get_or, arith, refl, ap, ◌∙◌}
use Rattle.std.proofs.lemmas.Grind.{get_or_default_zero}
use Rattle.ec_loads.specs.Cost.{items, payload}
use Rattle.ec_loads.proofs.ItemLemmas.{DivideAll-loads}
use Rattle.ec_loads.proofs.CostLemmas.{payload-mod}
use Rattle.ec_loads.proofs.loads.Loads.payload.Goals as goal

pub returns-clause-value : goal.returns-clause-value
returns-clause-value c =
    let s = c.self.inside in
    let inv = c.self.invariant in
    let xs = items s.loads.items s.places.items in
    let v = rw (← c.self.view_is) at c.row-row.ensures.value in
    let b = rw (← c.self.view_is) at c.row-row.ensures.bound in
    let is = inv.ticks ∙ inv.whole in
    let size = inv.table.size.1 in
    let inside = c.if-slot-self.false in
    let eight = inv.slots in
    let at : c.from.result ≡ c.args.slot = omega (arith, c.from.ensures) in
    rw (← c.self.view_is)
    (c.index.ensures ∙ ap (λ w. get_or s.table.cells.items (c.row-row.result * 8 + w) c.index.result.now) at
    ∙ get_or_default_zero s.table.cells.items (c.row-row.result * 8 + c.args.slot) _ (omega (arith, b, is, size, inside, eight))
    ∙ inv.table.carried c.row-row.result c.args.slot (omega (arith, b, is)) inside ∙ ap (λ w. payload xs w c.args.slot) v
    ∙ payload-mod xs _ c.args.tick c.args.slot (DivideAll-loads s.loads.items s.places.items _ inv.units refl))

pub returns-clause-bound : goal.returns-clause-bound
returns-clause-bound c =
    let s = c.self.inside in
    let inv = c.self.invariant in
    let b = rw (← c.self.view_is) at c.row-row.ensures.bound in
    let is = inv.ticks ∙ inv.whole in
    let size = inv.table.size.1 in
    let inside = c.if-slot-self.false in
    let eight = inv.slots in
    let at : c.from.result ≡ c.args.slot = omega (arith, c.from.ensures) in
    let e = c.index.ensures ∙ ap (λ w. get_or s.table.cells.items (c.row-row.result * 8 + w) c.index.result.now) at
    ∙ get_or_default_zero s.table.cells.items (c.row-row.result * 8 + c.args.slot) _ (omega (arith, b, is, size, inside, eight)) in
    let l = inv.table.most_payload c.row-row.result c.args.slot (omega (arith, b, is)) inside in
    omega (arith, e, l, s.table.limits.0)
