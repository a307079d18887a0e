use Rattle.ec_book.proofs.HistoryLemmas.{history-replays}
use Rattle.ec_book.proofs.law.law_histories_replay.Goals as goal

pub returns : goal.returns
returns c = history-replays
