use Rattle.ec_player_threads.proofs.AnswerLemmas.{same}
use Rattle.ec_player_threads.proofs.laws.law_same_answer.Goals as goal

pub returns : goal.returns
returns g c = λ us m image n slaves plain threads. same g.X.Pass.out g.X.Pass.next us m image n slaves plain threads
