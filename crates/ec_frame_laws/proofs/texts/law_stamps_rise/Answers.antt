use Rattle.ec_frame_laws.proofs.StampLemmas.{stamps-rise}
use Rattle.ec_frame_laws.proofs.texts.law_stamps_rise.Goals as goal

pub returns : goal.returns
returns c = stamps-rise
