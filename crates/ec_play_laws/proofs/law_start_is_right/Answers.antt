use Rattle.ec_play_laws.proofs.StartLaw.{start-runs}
use Rattle.ec_play_laws.proofs.law_start_is_right.Goals as goal

pub returns-clause-right : goal.returns-clause-right
returns-clause-right c = λ us m slaves laid whole even. (start-runs us m slaves laid whole even).right 0

pub returns-clause-slaves : goal.returns-clause-slaves
returns-clause-slaves c = λ us m slaves laid whole even. (start-runs us m slaves laid whole even).left
