use Rattle.std.proofs.Common.{arith}
use Rattle.std.proofs.lemmas.Grind.{common_steps}
use Rattle.std.proofs.lemmas.Option.{slice_get_read, slice_get_cases, slice_get_within}
use Rattle.ec_book.specs.declared.piece.Piece.TheVariants.{Taken}
use Rattle.ec_book.proofs.judge.grant_of.Goals as goal

pub returns-clause-ok : goal.returns-clause-ok
returns-clause-ok c = grind (arith, common_steps, slice_get_read, slice_get_cases)

pub returns-then-at-pieces-clause-err : goal.returns-then-at-pieces-clause-err
returns-then-at-pieces-clause-err c = λ w g is. omega (arith, slice_get_within c.args.pieces.now c.args.piece (Taken w g) is, c.if-at-pieces.true)
