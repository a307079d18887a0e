use Rattle.ec_frame_laws.proofs.PlayLemmas.{played-outputs, played-inputs, played-others}
use Rattle.ec_frame_laws.proofs.plays.law_plays_arrive.Goals as goal

pub returns-clause-outputs : goal.returns-clause-outputs
returns-clause-outputs c = played-outputs

pub returns-clause-inputs : goal.returns-clause-inputs
returns-clause-inputs c = played-inputs

pub returns-clause-others : goal.returns-clause-others
returns-clause-others c = played-others
