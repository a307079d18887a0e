use Rattle.std.proofs.Common.{refl, arith}
use Rattle.ec_symmetry.proofs.SendLemmas.{sent_step, sent_done}
use Rattle.ec_symmetry.proofs.turn.send_earlier.Goals as goal

pub loop-i-init : goal.loop-i-init
loop-i-init c = record { done = refl; left = refl }

pub loop-i-preserved : goal.loop-i-preserved
loop-i-preserved c =
    sent_step c.args.ticks c.args.units.now c.args.places.now c.loop-i.places c.loop-i.i c.index-units-i.result _ c.earlier_place.result (omega arith) (omega arith) (omega arith) c.index-units-i.is c.earlier_place.ensures c.loop-i.invariant

pub returns : goal.returns
returns c = sent_done c.args.ticks c.args.units.now c.args.places.now c.loop-i.places c.loop-i.i (omega arith) c.requires c.loop-i.auto.places c.loop-i.invariant
