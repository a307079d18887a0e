use Rattle.std.proofs.Common.{sym, arith}
use Rattle.ec_frames.proofs.ReadingFrames.{read_is}
use Rattle.ec_slave.proofs.StepLemmas.{extent_fits}
use Rattle.ec_player.proofs.judging.is_reply.Goals as goal

pub is_reply_to-requires : goal.is_reply_to-requires
is_reply_to-requires c =
    let fits = extent_fits c.as_slice.result.now c.in-Ok.parsed ((read_is c.as_slice.result.now c.in-Ok.parsed).0 (sym c.in-Ok.ensures)) in
    omega (arith, fits, c.as_slice.ensures.fits)
