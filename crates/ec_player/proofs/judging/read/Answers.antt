use Rattle.ec_player.proofs.FrameReading.{reading_is}
use Rattle.ec_player.proofs.judging.read.Goals as goal

pub returns : goal.returns
returns c = reading_is c.args.frame.now _ c.parse.ensures.ok c.parse.ensures.fault
