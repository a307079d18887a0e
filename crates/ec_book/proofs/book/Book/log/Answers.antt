use Rattle.ec_book.proofs.book.Book.log.Goals as goal

pub returns-clause-history : goal.returns-clause-history
returns-clause-history c = rw (← c.self.view_is) (rw c.as_slice.ensures.value c.self.invariant.counted.history)
