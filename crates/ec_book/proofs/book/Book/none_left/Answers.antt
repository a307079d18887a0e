use Rattle.std.proofs.Common.{rules}
use Rattle.ec_book.proofs.book.Book.none_left.Goals as goal

pub returns-then-self-eq0 : goal.returns-then-self-eq0
returns-then-self-eq0 c = search rules

pub returns-else-self-eq0 : goal.returns-else-self-eq0
returns-else-self-eq0 c = search rules
