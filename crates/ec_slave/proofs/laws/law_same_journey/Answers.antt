use Rattle.ec_slave.proofs.JourneyLemmas.{frames_alike, slaves_alike}
use Rattle.ec_slave.proofs.laws.law_same_journey.Goals as goal

pub returns-clause-frames : goal.returns-clause-frames
returns-clause-frames c = frames_alike

pub returns-clause-slaves : goal.returns-clause-slaves
returns-clause-slaves c = slaves_alike
