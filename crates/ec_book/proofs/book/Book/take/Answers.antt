use Rattle.std.proofs.Common.{rules}
use Rattle.ec_book.proofs.book.Book.take.Goals as goal

pub returns-in_default-clause-ok : goal.returns-in_default-clause-ok
returns-in_default-clause-ok c = search rules
