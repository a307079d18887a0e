use Rattle.std.proofs.Common.{◌≡◌, drop, ap, arith}
use borrow.Author.Tests.{lt-true, le-false}
use Rattle.std.proofs.lemmas.List.{drop_all}
use Rattle.toml.specs.View.{items_view}
use Rattle.ec_unit_text.specs.UnitText.{bytes_in}
use Rattle.ec_unit_text.proofs.Beside.{bytes_more}
use Rattle.ec_unit_text.proofs.judge.are_too_many_bytes.Goals as goal

pub loop-slave-preserved : goal.loop-slave-preserved
loop-slave-preserved c =
    let more = bytes_more c.args.slaves.now c.loop-slave.slave-index c.slave-item.result c.loop-slave-test.true c.slave-item.is in
    record { few = c.if-bytes-gt-MOST_BYTES.false; counted = omega (arith, more, c.bytes_at-bytes.ensures.value, c.loop-slave.invariant.counted) }

pub returns-then-bytes-gt-MOST_BYTES : goal.returns-then-bytes-gt-MOST_BYTES
returns-then-bytes-gt-MOST_BYTES c =
    let more = bytes_more c.args.slaves.now c.loop-slave.slave-index c.slave-item.result c.loop-slave-test.true c.slave-item.is in
    lt-true _ _ (omega (arith, more, c.bytes_at-bytes.ensures.value, c.loop-slave.invariant.counted, c.if-bytes-gt-MOST_BYTES.true))

pub returns : goal.returns
returns c =
    let end : bytes_in (items_view (drop c.loop-slave.slave-index c.args.slaves.now)) ≡ 0 = ap (λ l. bytes_in (items_view l)) (drop_all c.loop-slave.slave-index c.args.slaves.now c.loop-slave-test.false) in
    le-false _ _ (omega (arith, end, c.loop-slave.invariant.counted, c.loop-slave.invariant.few))
