use Rattle.ec_play_laws.proofs.CounterLemmas.{wrong-is, alike-is}
use Rattle.ec_play_laws.proofs.law_wrong_counters.Goals as goal

pub returns-clause-wrong : goal.returns-clause-wrong
returns-clause-wrong c = wrong-is

pub returns-clause-alike : goal.returns-clause-alike
returns-clause-alike c = alike-is
