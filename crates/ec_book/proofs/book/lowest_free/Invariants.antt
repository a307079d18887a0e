use Rattle.ec_book.specs.Kept.{NoneFreeBelow}
use Rattle.ec_book.specs.Parts.{is_of_part}
use Rattle.ec_book.proofs.book.lowest_free.Given as goal

abbrev pub invariant-loop-i : goal.invariant-loop-i
invariant-loop-i l = NoneFreeBelow (is_of_part l.part l.first) l.pieces l.i
