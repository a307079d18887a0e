use Rattle.std.proofs.Common.{◌≡◌, ◌+◌, ◌-◌, length-take, length-drop, get_or, ◌∙◌, arith}
use Rattle.ec_frames.specs.declared.writing.Datagram.{Datagram}
use Rattle.ec_frames.specs.declared.command.Command.TheVariants.{Nop}
use Rattle.ec_frames.proofs.WrittenSteps.{written_more, sums_more, short_more}
use Rattle.ec_frames.proofs.writing.put_datagrams.Goals as goal

pub loop-index-preserved : goal.loop-index-preserved
loop-index-preserved c =
    let none : Datagram = record { command = Nop; address = 0; len = 0 } in
    let list = c.args.list.now in
    let i = c.loop-index.index in
    let at = c.loop-index.at in
    let len : c.from-len.result ≡ (get_or list i none).len = c.from-len.ensures in
    let n : (at + c.from-len.result) - at ≡ (get_or list i none).len = omega arith in
    let sums = sums_more list i none c.loop-index-test.true in
    record {
      written = rw (c.put_datagram.ensures.bytes, n, len) (written_more c.loop-index.frame.items i at list none c.args.bytes.now c.loop-index-test.true ∙ c.loop-index.invariant.written);
      given = omega (arith, sums.0);
      room = grind (arith, c.put_datagram.ensures.len, length-take, length-drop, sums.1);
      many = omega (arith, c.put_datagram.ensures.len);
      short = short_more list i none c.loop-index-test.true c.loop-index.invariant.short;
    }
