use Rattle.std.proofs.Common.{length, ap, ◌∙◌, arith}
use Rattle.ec_bounds.specs.Left.{left_loads}
use Rattle.ec_bounds.proofs.StepLemmas.{left_some, left_none, left_done}
use Rattle.ec_bounds.proofs.counted.fill_left.Goals as goal
use Rattle.ec_bounds.proofs.counted.fill_left.Goals.{then-flags-i, else-flags-i}

pub loop-i-preserved : goal.loop-i-preserved
loop-i-preserved c =
    let inv = c.loop-i.invariant in
    let all = c.loads-all.result.now in
    let flags = c.flags-flags.result.now in
    let size = ap length c.loads-all.ensures.value in
    elim c.if-flags-i.branch [
      | then-flags-i w ↦
          record {
            room = c.if-flags-i.array_long;
            count = omega arith;
            copied = rw (w.table-is, w.count-is) (left_some all flags c.loop-i.table c.loop-i.i c.loop-i.count _ _ c.loop-i-test.true (omega (arith, size, c.flags-flags.ensures.each)) (omega (arith, c.loads-all.ensures.few)) w.if-flags-i.true inv.copied);
          }
      | else-flags-i w ↦
          record {
            room = c.if-flags-i.array_long;
            count = omega arith;
            copied = rw (w.table-is, w.count-is) (left_none all flags c.loop-i.table c.loop-i.i c.loop-i.count (record { bytes = 0; period = 0 }) _ c.loop-i-test.true (omega (arith, size, c.flags-flags.ensures.each)) w.if-flags-i.false inv.copied);
          }
    ]

pub returns-clause-left : goal.returns-clause-left
returns-clause-left c =
    left_done c.loads-all.result.now c.flags-flags.result.now c.loop-i.table c.loop-i.i c.loop-i.count c.loop-i-test.false c.loop-i.invariant.copied
    ∙ (λ i. left_loads (c.loads-all.ensures.value i) (c.flags-flags.ensures.value i))
