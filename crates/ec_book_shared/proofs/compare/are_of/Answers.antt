use Rattle.std.proofs.Common.{rules}
use Rattle.ec_book_shared.proofs.compare.are_of.Goals as goal

pub returns-then-units-slots : goal.returns-then-units-slots
returns-then-units-slots c = search rules
