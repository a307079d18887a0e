use Rattle.std.proofs.Common.{◌+◌, refl, take_all, arith}
use Rattle.ec_hyper.specs.Lcm.{lcm_of}
use Rattle.ec_hyper.proofs.LcmLemmas.{lcm_of-step, lcm_of-is, lcm_of-only, lcm_of-take, lcm-pos, positive}
use Rattle.ec_hyper.proofs.Hyper.of.Goals as goal

pub loop-period-init : goal.loop-period-init
unfolding lcm_of
loop-period-init c = record { so_far = refl; low = omega arith; high = omega arith }

pub returns-then-ticks-gt-MOST_TICKS-clause-short :
    goal.returns-then-ticks-gt-MOST_TICKS-clause-short
returns-then-ticks-gt-MOST_TICKS-clause-short c =
    let i = c.loop-period.period-index in
    let step = lcm_of-step c.args.periods.now i _ _ _ c.loop-period-test.true c.loop-period.invariant.so_far c.from.ensures c.least_common-ticks.ensures in
    omega (arith, step, lcm_of-take c.args.periods.now (i + 1) (positive _ c.requires))

pub loop-period-preserved : goal.loop-period-preserved
loop-period-preserved c =
    let step = lcm_of-step c.args.periods.now c.loop-period.period-index _ _ _ c.loop-period-test.true c.loop-period.invariant.so_far c.from.ensures c.least_common-ticks.ensures in
    record {
      so_far = step;
      low = omega (arith, c.least_common-ticks.ensures, lcm-pos c.loop-period.ticks c.from.result c.loop-period.invariant.low);
      high = c.if-ticks-gt-MOST_TICKS.false;
    }

pub returns-clause-least : goal.returns-clause-least
returns-clause-least c =
    rw (c.loop-period.invariant.so_far) (rw (take_all c.loop-period.period-index c.args.periods.now c.loop-period-test.false) (lcm_of-is c.args.periods.now (positive _ c.requires)))

pub returns-then-ticks-gt-MOST_TICKS-clause-long :
    goal.returns-then-ticks-gt-MOST_TICKS-clause-long
returns-then-ticks-gt-MOST_TICKS-clause-long c = λ h is.
    let i = c.loop-period.period-index in
    let step = lcm_of-step c.args.periods.now i _ _ _ c.loop-period-test.true c.loop-period.invariant.so_far c.from.ensures c.least_common-ticks.ensures in
    let same = lcm_of-only c.args.periods.now h (positive _ c.requires) is in
    omega (arith, step, same, lcm_of-take c.args.periods.now (i + 1) (positive _ c.requires))
