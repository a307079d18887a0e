use Rattle.std.proofs.Common.{reverse, ◌<◌, ◌≤◌, length, set, Some, None, arith, sym, subst, ◌∙◌}
use Rattle.std.proofs.lemmas.List.{length-set}
use Rattle.std.proofs.lemmas.Option.{get_or_from_slice_get}
use Rattle.ec_loads.specs.Cost.{item, items}
use Rattle.ec_loads.specs.Table.{IsOneMore}
use Rattle.ec_loads.proofs.ItemLemmas.{AreUnits-loads}
use Rattle.ec_loads.proofs.MoreLemmas.{less-items, items-length}
use Rattle.ec_loads.proofs.TrafficLemmas.{holds_alike, payload-out, count-out}
use Rattle.ec_loads.proofs.UsedLemmas.{slots-held_less, times-some, used-some}
use Rattle.ec_loads.proofs.TrailLemmas.{kept-less}
use Rattle.ec_loads.proofs.loads.Loads.take_out.Goals as goal
use Rattle.ec_loads.proofs.loads.Loads.take_out.Goals.{then-place-load+then-place-self, else-place-load, else-place-load-via-then-place-load+else-place-self, else-place-load-via-else-place-load}

pub take-requires-then-place-self-clause-table : goal.take-requires-then-place-self-clause-table
take-requires-then-place-self-clause-table c =
    let s = c.self.inside in
    let inv = c.self.invariant in
    let within = rw (← c.self.view_is) at c.requires.within in
    let each = inv.each in
    let xs = items s.loads.items (set s.places.items c.args.unit None) in
    let ys = items s.loads.items s.places.items in
    let m = less-items s.loads.items s.places.items c.args.unit c.index-load.result.now None c.args.place (omega (arith, within, each)) within (get_or_from_slice_get s.places.items c.args.unit (Some c.args.place) None (rw (← c.self.view_is) at c.requires.placed)) in
    let more = subst (λ l. IsOneMore (item l c.args.place) xs ys) (sym c.index-load.ensures) m in
    let all = items-length s.loads.items s.places.items in
    let few = inv.few in
    (xs, ys, more, inv.table, AreUnits-loads s.loads.items s.places.items inv.units, omega (arith, all, few))

pub invariant_of-self : goal.invariant_of-self
invariant_of-self c =
    let s = c.self.inside in
    let inv = c.self.invariant in
    let placed = rw (← c.self.view_is) at c.requires.placed in
    let within = rw (← c.self.view_is) at c.requires.within in
    let each = inv.each in
    let is = c.index-load.ensures in
    let xs = items s.loads.items (set s.places.items c.args.unit None) in
    let ys = items s.loads.items s.places.items in
    let m = less-items s.loads.items s.places.items c.args.unit c.index-load.result.now None c.args.place (omega (arith, within, each)) within (get_or_from_slice_get s.places.items c.args.unit (Some c.args.place) None (rw (← c.self.view_is) at c.requires.placed)) in
    let more = subst (λ l. IsOneMore (item l c.args.place) xs ys) (sym is) m in
    let size = length-set s.places.items c.args.unit None ∙ each in
    let pos = inv.units c.args.unit c.index-load.result.now (omega (arith, within, each)) in
    let pos' = subst (λ l. 1 ≤ l.period) (sym is) pos.0 in
    elim c.if-place-load.branch [
      | then-place-load+then-place-self w ↦ rw w.self-inside-is (record {
        units = inv.units;
        few = inv.few;
        each = size;
        slots = inv.slots;
        whole = inv.whole;
        ticks = w.take-then-place-self.ensures.ticks ∙ inv.ticks;
        table = w.take-then-place-self.ensures.table xs ys more inv.table;
        kept = rw (w.take-then-place-self.ensures.marks, w.take-then-place-self.ensures.ticks) (kept-less s.loads.items s.slots (length s.table.costs.items) s.places.items c.args.unit (reverse s.table.marks.items) inv.kept);
        used = slots-held_less s.places.items c.args.unit c.args.place c.take.new.self s.in_use placed inv.used c.take.ensures;
      })
      | else-place-load w ↦
          let out : c.args.place.phase < c.index-load.result.now.period → c.args.place.slot < s.slots → ⊥ = λ a b. elim w.else-place-load.branch [
            | else-place-load-via-then-place-load+else-place-self v ↦ let f = v.if-place-self.false in omega (arith, f, b)
            | else-place-load-via-else-place-load v ↦ let f = v.if-place-load.false in omega (arith, f, a)
          ] in
          rw w.self-inside-is (record {
            units = inv.units;
            few = inv.few;
            each = size;
            slots = inv.slots;
            whole = inv.whole;
            ticks = inv.ticks;
            table = holds_alike ys xs s.slots (length s.table.costs.items) s.table.counts.items s.table.cells.items s.table.costs.items s.table.raws.items s.table.total s.table.payload s.table.cost inv.table
                (payload-out (item c.index-load.result.now c.args.place) s.slots pos' more out)
                (count-out (item c.index-load.result.now c.args.place) s.slots more out);
            kept = kept-less s.loads.items s.slots (length s.table.costs.items) s.places.items c.args.unit (reverse s.table.marks.items) inv.kept;
            used = slots-held_less s.places.items c.args.unit c.args.place c.take.new.self s.in_use placed inv.used c.take.ensures;
          })
    ]

pub take-requires-clause-count : goal.take-requires-clause-count
take-requires-clause-count c =
    let s = c.self.inside in
    let is = c.self.invariant.used.each c.args.place.slot in
    let some = times-some s.places.items c.args.unit c.args.place (rw (← c.self.view_is) at c.requires.placed) in
    omega (arith, is, some)

pub take-requires-clause-different : goal.take-requires-clause-different
take-requires-clause-different c =
    let s = c.self.inside in
    let is = c.self.invariant.used.number in
    let some = used-some s.places.items c.args.unit c.args.place (rw (← c.self.view_is) at c.requires.placed) in
    omega (arith, is, some)
