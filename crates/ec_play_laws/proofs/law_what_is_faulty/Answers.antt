use Rattle.ec_play_laws.proofs.MeaningLemmas.{unread-is, other-is, counter-is, reply-is, is-reply}
use Rattle.ec_play_laws.proofs.law_what_is_faulty.Goals as goal

pub returns-clause-unread : goal.returns-clause-unread
returns-clause-unread c = unread-is

pub returns-clause-other : goal.returns-clause-other
returns-clause-other c = other-is

pub returns-clause-counter : goal.returns-clause-counter
returns-clause-counter c = counter-is

pub returns-clause-reply : goal.returns-clause-reply
returns-clause-reply c = λ ds sent back. (reply-is ds sent back, is-reply ds sent back)
