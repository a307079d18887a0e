use Rattle.ec_play_laws.proofs.PlayLaw.{play-runs, play-lacks}
use Rattle.ec_play_laws.proofs.law_play_is_right.Goals as goal

pub returns-clause-right : goal.returns-clause-right
returns-clause-right c = play-runs

pub returns-clause-lacks : goal.returns-clause-lacks
returns-clause-lacks c = play-lacks
