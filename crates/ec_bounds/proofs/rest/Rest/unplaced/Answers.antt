use Rattle.std.proofs.Common.{take, ap, true, arith, length-take}
use Rattle.std.proofs.lemmas.List.{length-set}
use Rattle.ec_bounds.specs.Left.{Left}
use Rattle.ec_bounds.proofs.LeftLemmas.{flags-set}
use Rattle.ec_bounds.proofs.RestLemmas.{rest-more, rest-limit}
use Rattle.ec_bounds.proofs.rest.Rest.unplaced.Goals as goal

pub overflow_add-self : goal.overflow_add-self
overflow_add-self c =
    let s = c.self.inside in
    let inv = c.self.invariant in
    let h = c.ticks-ticks.ensures in
    let limit = rest-limit s.hyper s.count s.table (take s.count s.unplaced) inv.few inv.units (omega (arith, h.value, h.range)) in
    let small = c.self.ranges in
    omega (arith, limit, inv.running, c.from.ensures)

pub invariant_of-self : goal.invariant_of-self
invariant_of-self c =
    let s = c.self.inside in
    let inv = c.self.invariant in
    let size = length-take s.count s.unplaced in
    let within = rw (← c.self.view_is) at c.requires in
    let step = rest-more s.hyper s.count c.args.unit s.table s.unplaced s.sent s.demand inv.products inv.running (omega (arith, inv.few, inv.table)) (omega (arith, inv.few, inv.flags)) (omega (arith, size, within)) c.if-not-self-unit.true in
    let len = length-set s.unplaced c.args.unit true in
    record {
      few = inv.few;
      table = inv.table;
      flags = omega (arith, len, inv.flags);
      units = inv.units;
      whole = inv.whole;
      products = inv.products;
      running = omega (arith, step, c.from.ensures);
      room = inv.room;
    }

pub returns-then-not-self-unit : goal.returns-then-not-self-unit
returns-then-not-self-unit c =
    flags-set c.self.inside.table c.self.inside.unplaced c.self.inside.count c.args.unit true c.args.self.now.loads c.args.self.now.unplaced
    (ap (λ (l : Left). l.loads) c.self.view_is) (ap (λ (l : Left). l.unplaced) c.self.view_is) c.requires
