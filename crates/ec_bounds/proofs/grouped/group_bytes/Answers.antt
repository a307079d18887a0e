use Rattle.std.proofs.Common.{arith}
use Rattle.ec_bounds.proofs.StepLemmas.{group_next, group_end}
use Rattle.ec_bounds.proofs.grouped.group_bytes.Goals as goal

pub loop-i-preserved : goal.loop-i-preserved
loop-i-preserved c =
    let inv = c.loop-i.invariant in
    let own = c.header_bytes-total.ensures in
    record {
      sum = group_next c.args.ticks c.args.periods.now c.args.pairs.now c.loop-i.i 0 c.loop-i.total c.header_bytes-total.result (record { count = 0; room = 0 }) (omega (arith, c.loop-i-test.true, c.requires.each)) c.loop-i-test.true own.value inv.sum;
      bound = omega (arith, inv.bound, own.bound);
    }

pub returns-clause-value : goal.returns-clause-value
returns-clause-value c = group_end c.args.ticks c.args.periods.now c.args.pairs.now c.loop-i.i c.loop-i.total (omega (arith, c.loop-i-test.false, c.requires.each)) c.loop-i.invariant.sum
