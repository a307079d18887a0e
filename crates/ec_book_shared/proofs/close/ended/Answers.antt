use Rattle.std.proofs.Common.{rules}
use Rattle.ec_book_shared.proofs.close.ended.Goals as goal

pub returns-then-is_right-clause-ok : goal.returns-then-is_right-clause-ok
returns-then-is_right-clause-ok g c = search rules

pub returns-else-is_right-clause-err : goal.returns-else-is_right-clause-err
returns-else-is_right-clause-err g c = search rules

pub returns-else-is_right-clause-ok : goal.returns-else-is_right-clause-ok
returns-else-is_right-clause-ok g c = search rules
