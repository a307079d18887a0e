use Rattle.std.proofs.Common.{arith, length-set}
use Rattle.ec_loads.proofs.ItemLemmas.{places_step, places_done}
use Rattle.ec_loads.proofs.table.fill_places.Goals as goal

pub loop-i-preserved : goal.loop-i-preserved
loop-i-preserved c =
    record {
      room = simp length-set c.loop-i.invariant.room;
      copied = places_step c.args.places.now c.loop-i.table c.loop-i.i _ (omega (arith, c.loop-i.invariant.room, c.loop-i-test.true, c.requires)) c.loop-i-test.true c.loop-i.invariant.copied;
    }

pub returns : goal.returns
returns c = places_done c.args.places.now c.loop-i.table c.loop-i.i c.loop-i-test.false c.loop-i.auto.i-end c.loop-i.invariant.copied
