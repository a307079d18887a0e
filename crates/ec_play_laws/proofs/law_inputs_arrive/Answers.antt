use Rattle.ec_play_laws.proofs.PlayLaw.{inputs-arrive, inputs-absent}
use Rattle.ec_play_laws.proofs.law_inputs_arrive.Goals as goal

pub returns-clause-travelled : goal.returns-clause-travelled
returns-clause-travelled c = inputs-arrive

pub returns-clause-others : goal.returns-clause-others
returns-clause-others c = inputs-absent
