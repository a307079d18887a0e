use Rattle.ec_frame_builder.proofs.WithinLemmas.{sent-all}
use Rattle.ec_frame_builder.proofs.image.sent_of.Goals as goal

pub returns : goal.returns
returns c = sent-all c.args.fmmus.now c.args.image.now c.loop-pair.bytes.items c.loop-pair.pair-index c.loop-pair-test.false c.loop-pair.invariant.len c.loop-pair.invariant.each
