use Rattle.std.proofs.Common.{arith}
use Rattle.ec_book.proofs.book.Book.spent.Goals as goal

pub returns-clause-bound : goal.returns-clause-bound
returns-clause-bound c = rw (← c.self.view_is) (omega (arith, c.self.invariant.counted.within))
