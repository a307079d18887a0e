use Rattle.std.proofs.Common.{rules, reverse, ◌<◌, ◌≤◌, length, set, Some, None, arith, sym, subst, ◌∙◌}
use Rattle.std.proofs.lemmas.List.{length-set}
use Rattle.std.proofs.lemmas.Option.{get_or_from_slice_get}
use Rattle.ec_loads.specs.Cost.{item, items}
use Rattle.ec_loads.specs.Table.{IsOneMore}
use Rattle.ec_loads.proofs.ItemLemmas.{AreUnits-loads}
use Rattle.ec_loads.proofs.MoreLemmas.{more-items, length-more, items-length}
use Rattle.ec_loads.proofs.TrafficLemmas.{holds_alike, payload-out, count-out}
use Rattle.ec_loads.proofs.UsedLemmas.{slots-held_more, times-few, used-few}
use Rattle.ec_loads.proofs.TrailLemmas.{kept-push, most-held}
use Rattle.ec_loads.proofs.loads.Loads.put.Goals as goal
use Rattle.ec_loads.proofs.loads.Loads.put.Goals.{then-place-load+then-place-self, else-place-load, else-place-load-via-then-place-load+else-place-self, else-place-load-via-else-place-load}

pub add-requires-then-place-self-clause-table : goal.add-requires-then-place-self-clause-table
add-requires-then-place-self-clause-table c =
    let s = c.self.inside in
    let inv = c.self.invariant in
    let free = rw (← c.self.view_is) at c.requires.free in
    let within = rw (← c.self.view_is) at c.requires.within in
    let each = inv.each in
    let m = more-items s.loads.items s.places.items c.args.unit c.index-load.result.now c.args.place (omega (arith, within, each)) within (get_or_from_slice_get s.places.items c.args.unit None None free) in
    let one = length-more _ m in
    let all = items-length s.loads.items (set s.places.items c.args.unit (Some c.args.place)) in
    let few = inv.few in
    (items s.loads.items s.places.items, inv.table, AreUnits-loads s.loads.items s.places.items inv.units, omega (arith, one, all, few))

pub invariant_of-self : goal.invariant_of-self
invariant_of-self c =
    let s = c.self.inside in
    let inv = c.self.invariant in
    let free = rw (← c.self.view_is) at c.requires.free in
    let within = rw (← c.self.view_is) at c.requires.within in
    let each = inv.each in
    let is = c.index-load.ensures in
    let xs = items s.loads.items s.places.items in
    let ys = items s.loads.items (set s.places.items c.args.unit (Some c.args.place)) in
    let m = more-items s.loads.items s.places.items c.args.unit c.index-load.result.now c.args.place (omega (arith, within, each)) within (get_or_from_slice_get s.places.items c.args.unit None None free) in
    let more = subst (λ l. IsOneMore (item l c.args.place) xs ys) (sym is) m in
    let size = length-set s.places.items c.args.unit (Some c.args.place) ∙ each in
    let pos = inv.units c.args.unit c.index-load.result.now (omega (arith, within, each)) in
    let pos' = subst (λ l. 1 ≤ l.period) (sym is) pos.0 in
    elim c.if-place-load.branch [
      | then-place-load+then-place-self w ↦ rw w.self-inside-is (record {
        units = inv.units;
        few = inv.few;
        each = size;
        slots = inv.slots;
        whole = inv.whole;
        ticks = w.add-then-place-self.ensures.ticks ∙ inv.ticks;
        table = w.add-then-place-self.ensures.table xs ys more inv.table;
        kept = rw (w.add-then-place-self.ensures.marks, w.add-then-place-self.ensures.ticks) (kept-push s.loads.items s.slots (length s.table.costs.items) s.places.items c.args.place (record { unit = c.args.unit; payload = s.table.payload; cost = s.table.cost }) (reverse s.table.marks.items) _ (get_or_from_slice_get s.places.items c.args.unit None None free) (most-held xs s.slots (length s.table.costs.items) s.table.counts.items s.table.cells.items s.table.costs.items s.table.raws.items s.table.total s.table.payload s.table.cost inv.table) inv.kept c.push_mark.ensures);
        used = slots-held_more s.places.items c.args.unit c.args.place s.in_use c.add.new.self free inv.used c.add.ensures;
      })
      | else-place-load w ↦
          let out : c.args.place.phase < c.index-load.result.now.period → c.args.place.slot < s.slots → ⊥ = λ a b. elim w.else-place-load.branch [
            | else-place-load-via-then-place-load+else-place-self v ↦ let f = v.if-place-self.false in omega (arith, f, b)
            | else-place-load-via-else-place-load v ↦ let f = v.if-place-load.false in omega (arith, f, a)
          ] in
          rw w.self-inside-is (record {
            units = inv.units;
            few = inv.few;
            each = size;
            slots = inv.slots;
            whole = inv.whole;
            ticks = inv.ticks;
            table = holds_alike xs ys s.slots (length s.table.costs.items) s.table.counts.items s.table.cells.items s.table.costs.items s.table.raws.items s.table.total s.table.payload s.table.cost inv.table
                (λ t r l. sym (payload-out (item c.index-load.result.now c.args.place) s.slots pos' more out t r l))
                (λ p f r l n. sym (count-out (item c.index-load.result.now c.args.place) s.slots more out p f r l n));
            kept = kept-push s.loads.items s.slots (length s.table.costs.items) s.places.items c.args.place (record { unit = c.args.unit; payload = s.table.payload; cost = s.table.cost }) (reverse s.table.marks.items) _ (get_or_from_slice_get s.places.items c.args.unit None None free) (most-held xs s.slots (length s.table.costs.items) s.table.counts.items s.table.cells.items s.table.costs.items s.table.raws.items s.table.total s.table.payload s.table.cost inv.table) inv.kept c.push_mark.ensures;
            used = slots-held_more s.places.items c.args.unit c.args.place s.in_use c.add.new.self free inv.used c.add.ensures;
          })
    ]

pub returns : goal.returns
returns c = search rules

pub add-requires-clause-count : goal.add-requires-clause-count
add-requires-clause-count c =
    let s = c.self.inside in
    let inv = c.self.invariant in
    let is = inv.used.each c.args.place.slot in
    let few = times-few c.args.place.slot s.places.items in
    omega (arith, is, few, inv.each, inv.few)

pub add-requires-clause-different : goal.add-requires-clause-different
add-requires-clause-different c =
    let s = c.self.inside in
    let inv = c.self.invariant in
    let is = inv.used.number in
    let few = used-few s.places.items in
    omega (arith, is, few, inv.each, inv.few)
