use Rattle.std.proofs.Common.{◌≡◌, get_or}
use Rattle.std.proofs.lemmas.Option.{get_or_from_slice_get}
use borrow.Author.Count.{below_more}
use borrow.Author.Tests.{both_ways}
use Rattle.ec_book.specs.declared.piece.Piece.TheVariants.{Free}
use Rattle.ec_book.proofs.book.lowest_free.Goals as goal

pub loop-i-preserved : goal.loop-i-preserved
loop-i-preserved c = below_more _ _ c.loop-i.invariant (λ own is. let e : get_or c.args.pieces.now c.loop-i.i Free ≡ Free = get_or_from_slice_get c.args.pieces.now c.loop-i.i Free Free is in absurd (both_ways _ c.if-is_for_taking.false (c.is_for_taking.ensures.1 (e, own))))
