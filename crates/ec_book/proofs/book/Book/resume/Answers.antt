use Rattle.std.proofs.Common.{◌≡◌, [], length, ap, ◌∙◌, arith, replicate}
use Rattle.ec_units.specs.Load.{loads_of}
use Rattle.ec_loads.specs.Line.{line_by, line_of}
use Rattle.ec_loads.specs.Search.{open_count}
use Rattle.ec_cert.specs.IsBestPlan.{value_of}
use Rattle.ec_cert.specs.Shapes.{shape_of}
use Rattle.ec_symmetry.specs.Ruled.{line_rules}
use Rattle.ec_book.specs.declared.piece.Piece.TheVariants.{Free}
use Rattle.ec_book.specs.Open.{open_places}
use Rattle.ec_book.specs.Views.{book_view}
use Rattle.ec_book.proofs.GivenLemmas.{count-given, order-given, pieces-are, kept-given}
use Rattle.ec_book.proofs.book.Book.resume.Goals as goal

pub opened_by-requires-clause-order : goal.opened_by-requires-clause-order
opened_by-requires-clause-order c =
    order-given c.args.units.now.units c.args.units.now.slots c.in_ok-loads.loads _ c.args.cert.order c.requires.order c.in_ok-loads.ensures (c.as_slice.ensures.value ∙ c.into_vec-order.ensures)

pub add_free-requires : goal.add_free-requires
add_free-requires c = omega (arith, c.in_ok-pieces.ensures.capacity, ap length c.in_ok-pieces.ensures.items, c.len-count.ensures)

pub invariant_of-result : goal.invariant_of-result
invariant_of-result c =
    let us = c.args.units.now.units in
    let n = c.args.units.now.slots in
    let cert = c.args.cert in
    let line = line_by (line_rules c.args.rules) (loads_of us) n in
    let order_is : c.into_vec-order.result.items ≡ cert.order = c.into_vec-order.ensures in
    let opened : c.in_ok-opened.opened.prefixes ≡ open_places line cert.order (shape_of cert.tree) [] =
    c.in_ok-opened.ensures.prefixes ∙ (λ j. open_places (line_of (line_rules c.args.rules) (c.in_ok-loads.ensures j)) ((c.as_slice.ensures.value ∙ order_is) j) (shape_of cert.tree) []) in
    let free = pieces-are (shape_of cert.tree) line cert.order (value_of cert.best) c.requires.tree _ _ c.in_ok-opened.opened.prefixes _ c.add_free.ensures c.in_ok-pieces.ensures.items opened in
    let pieces_is : c.add_free.new.pieces.items ≡ replicate (open_count (shape_of cert.tree)) Free =
    free (omega (arith, c.len-count.ensures)) in
    let count_is : c.len-count.result ≡ length c.in_ok-opened.opened.prefixes = omega (arith, c.len-count.ensures) in
    let first_is : c.len-count.result ≡ open_count (shape_of cert.tree) = count_is ∙ ap length opened ∙ count-given (shape_of cert.tree) line cert.order (value_of cert.best) c.requires.tree in
    rw (order_is, c.value_in-given_value.ensures) (
    kept-given us n cert.order (line_rules c.args.rules) cert.best (shape_of cert.tree) c.args.nodes c.requires.order c.requires.best c.requires.tree
    c.in_ok-loads.loads c.add_free.new.pieces.items c.in_ok-opened.opened.prefixes c.new-2.result.items c.new-3.result.items _ _ _ _ _
    c.in_ok-loads.ensures pieces_is opened c.new-2.ensures.items c.new-3.ensures.items c.in_ok-leaves.ensures.items (omega (arith, c.in_ok-leaves.ensures.capacity, c.len-count.ensures)) c.requires.part first_is)

pub returns : goal.returns
returns c =
    let us = c.args.units.now.units in
    let n = c.args.units.now.slots in
    let cert = c.args.cert in
    let line = line_by (line_rules c.args.rules) (loads_of us) n in
    let order_is : c.into_vec-order.result.items ≡ cert.order = c.into_vec-order.ensures in
    let opened : c.in_ok-opened.opened.prefixes ≡ open_places line cert.order (shape_of cert.tree) [] =
    c.in_ok-opened.ensures.prefixes ∙ (λ j. open_places (line_of (line_rules c.args.rules) (c.in_ok-loads.ensures j)) ((c.as_slice.ensures.value ∙ order_is) j) (shape_of cert.tree) []) in
    let free = pieces-are (shape_of cert.tree) line cert.order (value_of cert.best) c.requires.tree _ _ c.in_ok-opened.opened.prefixes _ c.add_free.ensures c.in_ok-pieces.ensures.items opened in
    let pieces_is : c.add_free.new.pieces.items ≡ replicate (open_count (shape_of cert.tree)) Free =
    free (omega (arith, c.len-count.ensures)) in
    λ j. book_view (c.in_ok-loads.ensures j).loads (c.in_ok-loads.ensures j).slots (order_is j) (line_rules c.args.rules) c.args.nodes (pieces_is j) (opened j) cert.best 0 (c.new-3.ensures.items j) (shape_of cert.tree) (c.value_in-given_value.ensures j) c.args.part
