use Rattle.ec_book.proofs.book.add_opened.Goals as goal

pub returns-clause-known : goal.returns-clause-known
returns-clause-known c = (c.in-Some.opened, c.in-Some.is, c.len-count.ensures, c.in_ok-append.ensures.ok)
