use Rattle.std.proofs.Common.{rules}
use Rattle.ec_book.proofs.book.Book.left.Goals as goal

pub returns : goal.returns
returns c = search rules
