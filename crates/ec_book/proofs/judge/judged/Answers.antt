use Rattle.std.proofs.Common.{ℕ, List, Option, refl, arith}
use Rattle.std.proofs.lemmas.Grind.{common_steps}
use Rattle.std.proofs.lemmas.Option.{slice_get_within}
use borrow.Author.Tests.{both_ways}
use Rattle.ec_units.specs.declared.slave.Place.{Place}
use Rattle.ec_book.specs.declared.piece.Piece.{Piece}
use Rattle.ec_book.specs.declared.piece.Piece.TheVariants.{Taken}
use Rattle.ec_book.specs.declared.fault.BookFault.{BookFault}
use Rattle.ec_book.specs.declared.fault.BookFault.TheVariants as fault
use Rattle.ec_book.specs.Faults.{IsHoldFault, IsReportFault}
use Rattle.ec_book.proofs.judge.judged.Goals as goal

-- a piece that isn't this worker's is refused before the rest is looked at
not-held : (pieces : List Piece) (prefixes : List (List Place)) (value : Option ℕ) (worker p : ℕ) (prefix : List Place) (threshold : Option ℕ) (nodes : ℕ) (e : BookFault) → IsHoldFault pieces worker p e → IsReportFault pieces prefixes value worker p prefix threshold nodes e
not-held pieces prefixes value worker p prefix threshold nodes fault.NotTaken is = is
not-held pieces prefixes value worker p prefix threshold nodes fault.NotYours is = is
not-held pieces prefixes value worker p prefix threshold nodes fault.OutOfMemory is = absurd is
not-held pieces prefixes value worker p prefix threshold nodes (fault.AheadOfBook _) is = absurd is
not-held pieces prefixes value worker p prefix threshold nodes fault.OverGrant is = absurd is
not-held pieces prefixes value worker p prefix threshold nodes (fault.NotBetter _) is = absurd is
not-held pieces prefixes value worker p prefix threshold nodes (fault.Illegal _) is = absurd is
not-held pieces prefixes value worker p prefix threshold nodes fault.Stranger is = absurd is
not-held pieces prefixes value worker p prefix threshold nodes fault.NotFree is = absurd is

pub returns-in-Err-clause-err : goal.returns-in-Err-clause-err
returns-in-Err-clause-err c = not-held _ _ _ _ _ _ _ _ c.in-Err.fault c.in-Err.ensures.err

pub has_places-requires : goal.has_places-requires
has_places-requires c = omega (arith, slice_get_within c.args.pieces.now c.args.piece (Taken c.args.worker c.in-Ok.grant) c.in-Ok.ensures.ok, c.requires.each)

pub returns-then-not-has_places-clause-err : goal.returns-then-not-has_places-clause-err
returns-then-not-has_places-clause-err c = (c.in-Ok.grant, c.in-Ok.ensures.ok, λ is. absurd (both_ways _ c.if-not-has_places.true (c.has_places.ensures.1 is)))

pub returns-then-not-is_at_most-clause-err : goal.returns-then-not-is_at_most-clause-err
returns-then-not-is_at_most-clause-err c = (c.in-Ok.grant, c.in-Ok.ensures.ok, c.has_places.ensures.0 c.if-not-has_places.false, refl, λ most. absurd (both_ways _ c.if-not-is_at_most.true (c.is_at_most.ensures.1 most)))

pub returns-then-nodes-from-clause-err : goal.returns-then-nodes-from-clause-err
returns-then-nodes-from-clause-err c = (c.in-Ok.grant, c.in-Ok.ensures.ok, c.has_places.ensures.0 c.if-not-has_places.false, c.is_at_most.ensures.0 c.if-not-is_at_most.false, grind (arith, common_steps))

pub returns-clause-ok : goal.returns-clause-ok
returns-clause-ok c = record {
  held = c.in-Ok.ensures.ok;
  place = c.has_places.ensures.0 c.if-not-has_places.false;
  ahead = c.is_at_most.ensures.0 c.if-not-is_at_most.false;
  fits = grind (arith, common_steps);
}
