use Rattle.std.proofs.Common.{arith}
use Rattle.ec_book.proofs.PieceLemmas.{live_count-step}
use Rattle.ec_book.proofs.book.count_live.Goals as goal

pub loop-i-preserved : goal.loop-i-preserved
loop-i-preserved c =
    let step = live_count-step c.args.pieces.now c.loop-i.i _ c.one_if_live-count.result c.loop-i-test.true c.one_if_live-count.ensures.value in
    record { so_far = omega (arith, step, c.loop-i.invariant.so_far); small = omega (arith, c.loop-i.invariant.small, c.one_if_live-count.ensures.bound) }
