use Rattle.ec_player.proofs.ImageLemmas.{image-all}
use Rattle.ec_player.proofs.images.image_of.Goals as goal

pub returns : goal.returns
returns c = λ ds h.
    image-all c.args.fmmus.now c.args.image.now c.args.came.now c.loop-pair.bytes.items c.loop-pair.pair-index ds c.loop-pair-test.false c.loop-pair.invariant.len c.loop-pair.invariant.each h
