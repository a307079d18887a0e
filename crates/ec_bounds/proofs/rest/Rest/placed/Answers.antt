use Rattle.std.proofs.Common.{ap, false, arith, length-take}
use Rattle.std.proofs.lemmas.List.{length-set}
use Rattle.ec_bounds.specs.Left.{Left}
use Rattle.ec_bounds.proofs.LeftLemmas.{flags-set}
use Rattle.ec_bounds.proofs.RestLemmas.{rest-less}
use Rattle.ec_bounds.proofs.rest.Rest.placed.Goals as goal

pub overflow_sub-self : goal.overflow_sub-self
overflow_sub-self c =
    let s = c.self.inside in
    let inv = c.self.invariant in
    let size = length-take s.count s.unplaced in
    let within = rw (← c.self.view_is) at c.requires in
    let step = rest-less s.hyper s.count c.args.unit s.table s.unplaced s.sent s.demand inv.products inv.running (omega (arith, inv.few, inv.table)) (omega (arith, inv.few, inv.flags)) (omega (arith, size, within)) c.if-self-unit.true in
    omega (arith, step, c.from.ensures)

pub invariant_of-self : goal.invariant_of-self
invariant_of-self c =
    let s = c.self.inside in
    let inv = c.self.invariant in
    let size = length-take s.count s.unplaced in
    let within = rw (← c.self.view_is) at c.requires in
    let step = rest-less s.hyper s.count c.args.unit s.table s.unplaced s.sent s.demand inv.products inv.running (omega (arith, inv.few, inv.table)) (omega (arith, inv.few, inv.flags)) (omega (arith, size, within)) c.if-self-unit.true in
    let len = length-set s.unplaced c.args.unit false in
    record {
      few = inv.few;
      table = inv.table;
      flags = omega (arith, len, inv.flags);
      units = inv.units;
      whole = inv.whole;
      products = inv.products;
      running = omega (arith, step, c.from.ensures);
      room = inv.room;
    }

pub returns-then-self-unit : goal.returns-then-self-unit
returns-then-self-unit c =
    flags-set c.self.inside.table c.self.inside.unplaced c.self.inside.count c.args.unit false c.args.self.now.loads c.args.self.now.unplaced
    (ap (λ (l : Left). l.loads) c.self.view_is) (ap (λ (l : Left). l.unplaced) c.self.view_is) c.requires
