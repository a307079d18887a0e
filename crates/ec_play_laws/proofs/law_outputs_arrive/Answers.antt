use Rattle.ec_play_laws.proofs.PlayLaw.{outputs-arrive}
use Rattle.ec_play_laws.proofs.law_outputs_arrive.Goals as goal

pub returns : goal.returns
returns c = outputs-arrive
