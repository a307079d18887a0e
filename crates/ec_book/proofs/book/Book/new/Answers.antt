use Rattle.std.proofs.Common.{refl, ◌++◌, ◌∷◌, [], None, ap, ◌∙◌, arith, length}
use Rattle.ec_loads.specs.Shape.{open_leaf}
use Rattle.ec_symmetry.specs.Ruled.{line_rules}
use Rattle.ec_book.specs.declared.piece.Piece.TheVariants.{Free}
use Rattle.ec_book.proofs.DrawLemmas.{shape_of-OpenLeaf}
use Rattle.ec_book.proofs.GivenLemmas.{kept-given}
use Rattle.ec_book.proofs.book.Book.new.Goals as goal

pub invariant_of-result : goal.invariant_of-result
invariant_of-result c =
    let us = c.args.units.now.units in
    let n = c.args.units.now.slots in
    let order = c.args.order.now in
    let one = c.in_ok-push.ensures.items ∙ ap (λ w. w ++ Free ∷ []) c.new-pieces.ensures.items in
    rw (c.in_ok-order.ensures.items, shape_of-OpenLeaf) (
    kept-given us n order (line_rules c.args.rules) None open_leaf c.args.nodes c.requires tt (tt, tt)
    c.in_ok-loads.loads c.push.new.self.items c.in_ok-prefixes.prefixes c.new-2.result.items c.new-3.result.items _ _ _ _ _
    c.in_ok-loads.ensures one c.in_ok-prefixes.ensures c.new-2.ensures.items c.new-3.ensures.items c.in_ok-leaves.ensures.items (omega (arith, ap length c.in_ok-prefixes.ensures, c.in_ok-leaves.ensures.capacity)) c.whole.ensures.part refl)
