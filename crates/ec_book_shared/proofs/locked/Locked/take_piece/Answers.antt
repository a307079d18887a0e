use Rattle.std.proofs.Common.{rules}
use Rattle.ec_book_shared.proofs.locked.Locked.take_piece.Goals as goal

pub returns-in-Ok-clause-book : goal.returns-in-Ok-clause-book
returns-in-Ok-clause-book g c = search rules

pub returns-in-Ok-clause-some : goal.returns-in-Ok-clause-some
returns-in-Ok-clause-some g c = search rules
