use Rattle.std.proofs.Common.{refl}
use Rattle.ec_book.proofs.book.Book.lowest.Goals as goal

pub returns-clause-same : goal.returns-clause-same
returns-clause-same c = rw (← c.self.view_is) refl

pub returns-clause-found : goal.returns-clause-found
returns-clause-found c = rw (← c.self.view_is) (rw (c.as_slice.ensures.value, c.self.invariant.shared.first_is) at c.lowest_free-found.ensures)
