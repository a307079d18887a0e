use Rattle.std.proofs.Common.{◌≡◌, true}
use Rattle.ec_player_threads.specs.Plays.{IsLack}
use Rattle.ec_frame_laws.proofs.PlayLemmas.{only-lacks}
use Rattle.ec_frame_laws.proofs.plays.law_plays_lack.Goals as goal

pub returns-clause-any : goal.returns-clause-any
returns-clause-any c = λ lacks. only-lacks (λ g. lacks g ≡ true)

pub returns-clause-threads : goal.returns-clause-threads
returns-clause-threads c = only-lacks IsLack
