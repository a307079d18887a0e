use Rattle.ec_book.proofs.HistoryLemmas.{done-spent}
use Rattle.ec_book.proofs.law.law_done_is_spent.Goals as goal

pub returns : goal.returns
returns c = done-spent
