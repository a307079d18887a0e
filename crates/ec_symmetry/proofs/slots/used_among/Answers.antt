use Rattle.std.proofs.Common.{◌≡◌, ◌<◌, get_or, take, length, false, true, None, refl, subst, ap, ◌∙◌, arith}
use Rattle.std.proofs.lemmas.List.{get_or-replicate, length-set}
use Rattle.ec_loads.specs.Search.{slots_in}
use Rattle.ec_symmetry.proofs.SlotLemmas.{unit_none, unit_some, number_new, number_same}
use Rattle.ec_symmetry.proofs.slots.used_among.Goals as goal
use Rattle.ec_symmetry.proofs.slots.used_among.Goals.{in-Some+then-not-taken-slot, in-Some+else-not-taken-slot, in_default}

pub loop-i-init : goal.loop-i-init
loop-i-init c =
    record {
      room = refl;
      flags = λ s below. get_or-replicate 256 s false false below;
      so_far = refl;
      bound = omega arith;
    }

pub loop-i-preserved : goal.loop-i-preserved
loop-i-preserved c =
    let ps = c.args.places.now in
    let i = c.loop-i.i in
    let inv = c.loop-i.invariant in
    let ns = slots_in (take i ps) in
    elim c.match-places-i.branch [
      | in-Some+then-not-taken-slot w ↦
          let n = w.in-Some.place.slot in
          let at = w.number_of-slot.ensures.value in
          let low : n < 256 = omega (arith, at, w.number_of-slot.ensures.bound) in
          let flag = subst (λ k. get_or c.loop-i.taken k false ≡ false) at w.if-not-taken-slot.true in
          let more = unit_some ps i None w.in-Some.place c.loop-i-test.true w.in-Some.is in
          let step = number_new ns n c.loop-i.taken c.loop-i.count (omega (arith, inv.room, low)) low inv.flags inv.so_far flag in
          record {
            room = ap length w.taken-is ∙ length-set c.loop-i.taken w.number_of-slot.result true ∙ inv.room;
            flags = rw (w.taken-is, at, more) step.0;
            so_far = w.count-is ∙ rw more step.1;
            bound = omega (arith, w.count-is, inv.bound);
          }
      | in-Some+else-not-taken-slot w ↦
          let n = w.in-Some.place.slot in
          let at = w.number_of-slot.ensures.value in
          let low : n < 256 = omega (arith, at, w.number_of-slot.ensures.bound) in
          let flag = subst (λ k. get_or c.loop-i.taken k false ≡ true) at w.if-not-taken-slot.false in
          let more = unit_some ps i None w.in-Some.place c.loop-i-test.true w.in-Some.is in
          let step = number_same ns n c.loop-i.taken c.loop-i.count low inv.flags inv.so_far flag in
          record {
            room = ap length w.taken-is ∙ inv.room;
            flags = rw (w.taken-is, more) step.0;
            so_far = w.count-is ∙ rw more step.1;
            bound = omega (arith, w.count-is, inv.bound);
          }
      | in_default w ↦
          let more = unit_none ps i None c.loop-i-test.true w.in_default.is in
          record {
            room = ap length w.taken-is ∙ inv.room;
            flags = rw (w.taken-is, more) inv.flags;
            so_far = w.count-is ∙ rw more inv.so_far;
            bound = omega (arith, w.count-is, inv.bound);
          }
    ]
