use Rattle.std.proofs.Common.{rules}
use Rattle.ec_book_shared.proofs.locked.Locked.back.Goals as goal

pub returns-in-Ok-back-clause-holds : goal.returns-in-Ok-back-clause-holds
returns-in-Ok-back-clause-holds g c = search rules

pub returns-in-Ok-back-clause-held : goal.returns-in-Ok-back-clause-held
returns-in-Ok-back-clause-held g c = search rules

pub returns-in-Ok-back-clause-book : goal.returns-in-Ok-back-clause-book
returns-in-Ok-back-clause-book g c = search rules
