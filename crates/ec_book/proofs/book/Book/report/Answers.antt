use Rattle.std.proofs.Common.{◌∙◌}
use Rattle.ec_book.proofs.book.Book.report.Goals as goal

pub report_counted-requires-clause-tree : goal.report_counted-requires-clause-tree
report_counted-requires-clause-tree c = rw c.of-counted.ensures.sub c.requires.tree

pub report_counted-requires-clause-some : goal.report_counted-requires-clause-some
report_counted-requires-clause-some c = rw c.of-counted.ensures.sub c.requires.some

pub report_counted-requires-clause-opened : goal.report_counted-requires-clause-opened
report_counted-requires-clause-opened c = rw (← c.self.view_is, c.of-counted.ensures.sub) (rw c.as_slice.ensures.value at c.of-counted.ensures.opened)

pub returns-in-Ok-clause-welcome : goal.returns-in-Ok-clause-welcome
returns-in-Ok-clause-welcome c = rw c.of-counted.ensures.sub at c.in-Ok.ensures.welcome

pub returns-in-Ok-clause-ok : goal.returns-in-Ok-clause-ok
returns-in-Ok-clause-ok c = rw c.of-counted.ensures.sub at c.in-Ok.ensures.ok

pub returns-in-Err-clause-err : goal.returns-in-Err-clause-err
returns-in-Err-clause-err c =
    let (fault, same, kept) = c.in-Err.ensures.err in
    (rw c.of-counted.ensures.sub at fault, c.into_sub.ensures ∙ same ∙ c.of-counted.ensures.sub, kept)
