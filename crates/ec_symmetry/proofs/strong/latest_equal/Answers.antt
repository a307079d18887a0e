use Rattle.std.proofs.Common.{arith, refl}
use Rattle.ec_symmetry.proofs.LatestLemmas.{latest-none, latest_more}
use Rattle.ec_symmetry.proofs.strong.latest_equal.Goals as goal

pub loop-i-init : goal.loop-i-init
loop-i-init c = latest-none c.args.load c.args.loads.now c.args.places.now

pub loop-i-preserved : goal.loop-i-preserved
loop-i-preserved c =
    latest_more c.args.load c.args.loads.now c.args.places.now c.loop-i.i _ _ _ _ c.loop-i.latest c.later_of-latest.result
    c.loop-i-test.true (omega arith) refl refl c.loop-i.invariant c.later_of-latest.ensures
