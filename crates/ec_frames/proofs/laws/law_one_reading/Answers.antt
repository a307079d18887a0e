use Rattle.ec_frames.proofs.ReadingFrames as lemmas
use Rattle.ec_frames.proofs.laws.law_one_reading.Goals as goal

pub returns : goal.returns
returns c = lemmas.law_one_reading
