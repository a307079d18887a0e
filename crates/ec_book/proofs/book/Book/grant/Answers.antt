use Rattle.ec_book.proofs.book.Book.grant.Goals as goal

pub returns-clause-err : goal.returns-clause-err
returns-clause-err c = rw (← c.self.view_is) (rw c.as_slice.ensures.value at c.grant_of.ensures.err)
