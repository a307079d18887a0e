use Rattle.std.proofs.Common.{◌≡◌, ℕ, ◌<◌, true}
use Rattle.ec_book.specs.Parts.{is_of_part}
use Rattle.ec_book.specs.Steps.{live}
use Rattle.ec_book.proofs.book.none_is_left.Given as goal

abbrev pub invariant-loop-i : goal.invariant-loop-i
invariant-loop-i l = (m : ℕ) → m < l.i → is_of_part l.part l.first m ≡ true → live l.pieces m ≡ 0
