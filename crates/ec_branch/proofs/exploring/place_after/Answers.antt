use Rattle.std.proofs.Common.{◌+◌, length, drop, ap, sym, ◌∙◌, arith}
use Rattle.std.proofs.lemmas.List.{length-set}
use Rattle.ec_loads.specs.Held.{Held}
use Rattle.ec_symmetry.specs.Orders.{with_places}
use Rattle.ec_bounds.proofs.HeldLemmas.{rest_follows}
use Rattle.ec_branch.proofs.ReadyLemmas.{with_more}
use Rattle.ec_branch.proofs.exploring.place_after.Goals as goal

pub loop-i-preserved : goal.loop-i-preserved
loop-i-preserved c =
    let inv = c.loop-i.invariant in
    let u = c.from-unit.result in
    let i = c.loop-i.i in
    let order = c.args.order.now in
    let prefix = c.args.prefix.now in
    let made = c.place.ensures in
    record {
      loads = ap (λ (w : Held). w.loads) made ∙ inv.loads;
      slots = ap (λ (w : Held). w.slots) made ∙ inv.slots;
      count = ap (λ (w : Held). length w.places) made ∙ length-set c.loop-i.loads.places u _ ∙ inv.count;
      left = rest_follows c.loop-i.loads c.place.new.self c.loop-i.rest c.placed.new.self u _ inv.left made c.placed.ensures;
      places =
          ap (λ (w : Held). with_places w.places (drop (i + 1) order) (drop (i + 1) prefix)) made
          ∙ sym (with_more c.loop-i.loads.places order prefix i u _ _ (omega arith) c.loop-i-test.true c.from-unit.ensures)
          ∙ inv.places;
    }
