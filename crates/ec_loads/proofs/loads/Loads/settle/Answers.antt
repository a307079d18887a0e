use Rattle.std.proofs.Common.{reverse, ◌≡◌, ◌∷◌, length, get_or, None, subst, ap, ◌∙◌}
use Rattle.std.proofs.lemmas.Option.{get_or_from_slice_get}
use Rattle.ec_loads.specs.Cost.{items}
use Rattle.ec_loads.specs.Table.{AreKept}
use Rattle.ec_loads.proofs.TrailLemmas.{kept-pop, kept-none}
use Rattle.ec_loads.proofs.loads.Loads.settle.Goals as goal

pub invariant_of-self : goal.invariant_of-self
invariant_of-self c =
    let s = c.self.inside in
    let inv = c.self.invariant in
    let free = rw (← c.self.view_is) at c.requires in
    let is : (c.in-Some.mark.unit ≡ c.args.unit) × (reverse s.table.marks.items ≡ c.in-Some.mark ∷ reverse c.pop_mark.new.marks.items) = c.in-Some.ensures in
    let none = ap (λ u. get_or s.places.items u None) is.0 ∙ get_or_from_slice_get s.places.items c.args.unit None None free in
    let before = kept-pop s.loads.items s.slots (length s.table.costs.items) s.places.items c.in-Some.mark (reverse c.pop_mark.new.marks.items) none
    (subst (λ w. AreKept s.loads.items s.slots (length s.table.costs.items) s.places.items w) is.1 inv.kept) in
    record {
      units = inv.units;
      few = inv.few;
      each = inv.each;
      slots = inv.slots;
      whole = inv.whole;
      ticks = c.lower.ensures.ticks ∙ inv.ticks;
      table = c.lower.ensures.table (items s.loads.items s.places.items) s.slots before.0 inv.table;
      kept = rw (c.lower.ensures.marks, c.lower.ensures.ticks) before.1;
      used = inv.used;
    }

pub invariant_of-self-in-None : goal.invariant_of-self-in-None
invariant_of-self-in-None c =
    let s = c.self.inside in
    let inv = c.self.invariant in
    record {
      units = inv.units;
      few = inv.few;
      each = inv.each;
      slots = inv.slots;
      whole = inv.whole;
      ticks = c.measure.ensures.ticks ∙ inv.ticks;
      table = c.measure.ensures.table (items s.loads.items s.places.items) s.slots inv.slots inv.table;
      kept = kept-none s.loads.items s.slots _ s.places.items _ (ap reverse c.measure.ensures.marks ∙ c.in-None.ensures);
      used = inv.used;
    }
