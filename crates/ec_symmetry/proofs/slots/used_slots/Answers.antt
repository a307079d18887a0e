use Rattle.std.proofs.Common.{◌≡◌, ◌<◌, get_or, length, false, true, refl, subst, ap, ◌∙◌, arith}
use Rattle.std.proofs.lemmas.List.{get_or-replicate, length-set}
use Rattle.ec_units.specs.declared.slave.Place.{Place}
use Rattle.ec_symmetry.proofs.SlotLemmas.{slots_new, slots_same}
use Rattle.ec_symmetry.proofs.slots.used_slots.Goals as goal
use Rattle.ec_symmetry.proofs.slots.used_slots.Goals.{then-not-seen-slot, else-not-seen-slot}

pub loop-i-init : goal.loop-i-init
loop-i-init c =
    record {
      room = refl;
      flags = λ s below. get_or-replicate 256 s false false below;
      so_far = refl;
      bound = omega arith;
    }

pub loop-i-preserved : goal.loop-i-preserved
loop-i-preserved c =
    let ps = c.args.places.now in
    let i = c.loop-i.i in
    let inv = c.loop-i.invariant in
    let d : Place = record { phase = 0; slot = 0 } in
    let at = c.from-slot.ensures in
    let low : (get_or ps i d).slot < 256 = omega (arith, c.loop-i-test.element_fits) in
    let size = length-set c.loop-i.seen c.from-slot.result true in
    elim c.if-not-seen-slot.branch [
      | then-not-seen-slot b ↦
          let flag = subst (λ k. get_or c.loop-i.seen k false ≡ false) at b.if-not-seen-slot.true in
          let step = slots_new ps i d c.loop-i.seen c.loop-i.count c.loop-i-test.true (omega (arith, inv.room, low)) low inv.flags inv.so_far flag in
          record {
            room = ap length b.seen-is ∙ size ∙ inv.room;
            flags = rw (b.seen-is, at) step.0;
            so_far = b.count-is ∙ step.1;
            bound = omega (arith, b.count-is, inv.bound);
          }
      | else-not-seen-slot b ↦
          let flag = subst (λ k. get_or c.loop-i.seen k false ≡ true) at b.if-not-seen-slot.false in
          let step = slots_same ps i d c.loop-i.seen c.loop-i.count c.loop-i-test.true low inv.flags inv.so_far flag in
          record {
            room = ap length b.seen-is ∙ inv.room;
            flags = rw b.seen-is step.0;
            so_far = b.count-is ∙ step.1;
            bound = omega (arith, b.count-is, inv.bound);
          }
    ]
