use Rattle.std.proofs.Common.{rules}
use Rattle.ec_book.proofs.book.Book.take_piece.Goals as goal

pub returns-in-Ok-clause-ok : goal.returns-in-Ok-clause-ok
returns-in-Ok-clause-ok c = search rules

pub hand_out-requires-clause-free : goal.hand_out-requires-clause-free
hand_out-requires-clause-free c = search rules

pub returns-then-left-eq0-clause-ok : goal.returns-then-left-eq0-clause-ok
returns-then-left-eq0-clause-ok c = search rules
