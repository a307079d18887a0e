use Rattle.std.proofs.Common.{refl, arith}
use Rattle.ec_symmetry.proofs.RenameLemmas.{swap_step, swap_done}
use Rattle.ec_symmetry.proofs.rename.swap_slots.Goals as goal

pub loop-i-init : goal.loop-i-init
loop-i-init c = record { done = refl; left = refl }

pub loop-i-preserved : goal.loop-i-preserved
loop-i-preserved c =
    swap_step c.args.first c.args.second c.args.places.now c.loop-i.places c.loop-i.i _ c.swap_place.result c.loop-i-test.true (omega arith) c.swap_place.ensures c.loop-i.invariant

pub returns : goal.returns
returns c = swap_done c.args.first c.args.second c.args.places.now c.loop-i.places c.loop-i.i c.loop-i-test.false c.loop-i.auto.places c.loop-i.invariant
