use Rattle.std.proofs.Common.{◌≡◌, ◌<◌, length, set, get_or, Some, None, arith, sym, subst, ◌∙◌}
use Rattle.std.proofs.lemmas.Option.{get_or_from_slice_get, slice_get_within}
use Rattle.ec_loads.specs.Cost.{item, items}
use Rattle.ec_loads.specs.Excess.{IsExcess}
use Rattle.ec_loads.specs.Search.{nobody}
use Rattle.ec_loads.specs.Table.{IsOneMore}
use Rattle.std.proofs.lemmas.List.{get_or_default}
use Rattle.ec_loads.proofs.ItemLemmas.{AreUnits-loads}
use Rattle.ec_loads.proofs.MoreLemmas.{more-items, length-more, items-length}
use Rattle.ec_loads.proofs.loads.Loads.excess.Goals as goal

pub excess-requires-clause-table : goal.excess-requires-clause-table
excess-requires-clause-table c =
    let s = c.self.inside in
    let inv = c.self.invariant in
    let free = rw (← c.self.view_is) at c.requires.free in
    let each = inv.each in
    let within = slice_get_within s.places.items c.args.unit None free in
    let m = more-items s.loads.items s.places.items c.args.unit c.index.result.now c.args.place (omega (arith, within, each)) within (get_or_from_slice_get s.places.items c.args.unit None None free) in
    let one = length-more _ m in
    let all = items-length s.loads.items (set s.places.items c.args.unit (Some c.args.place)) in
    let few = inv.few in
    (items s.loads.items s.places.items, inv.table, AreUnits-loads s.loads.items s.places.items inv.units, omega (arith, one, all, few))

pub returns : goal.returns
returns c =
    let s = c.self.inside in
    let inv = c.self.invariant in
    let free = rw (← c.self.view_is) at c.requires.free in
    let each = inv.each in
    let within = slice_get_within s.places.items c.args.unit None free in
    let inside : c.args.unit < length s.loads.items = omega (arith, within, each) in
    let xs = items s.loads.items s.places.items in
    let ys = items s.loads.items (set s.places.items c.args.unit (Some c.args.place)) in
    let load = c.index.result.now in
    let m = more-items s.loads.items s.places.items c.args.unit load c.args.place inside within (get_or_from_slice_get s.places.items c.args.unit None None free) in
    let more = subst (λ l. IsOneMore (item l c.args.place) xs ys) (sym c.index.ensures) m in
    let is : load ≡ get_or s.loads.items c.args.unit nobody = c.index.ensures ∙ get_or_default s.loads.items c.args.unit load nobody inside in
    let told = c.excess.ensures xs ys more inv.table in
    rw (← c.self.view_is)
    (subst (λ h. IsExcess ys s.slots h (get_or s.loads.items c.args.unit nobody).period c.args.place.phase c.args.place.slot c.args.value c.excess.result) (inv.ticks ∙ inv.whole)
    (subst (λ l. IsExcess ys s.slots (length s.table.costs.items) l.period c.args.place.phase c.args.place.slot c.args.value c.excess.result) is told))
