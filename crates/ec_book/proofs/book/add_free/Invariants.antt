use Rattle.std.proofs.Common.{◌≡◌, ◌++◌, replicate, vec_capacity}
use Rattle.ec_book.specs.declared.piece.Piece.TheVariants.{Free}
use Rattle.ec_book.proofs.book.add_free.Given as goal

abbrev pub invariant-loop-i : goal.invariant-loop-i
invariant-loop-i l = (l.pieces.items ≡ l.initial.pieces.items ++ replicate l.i Free) × (vec_capacity l.pieces ≡ vec_capacity l.initial.pieces)
