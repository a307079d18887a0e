use Rattle.std.proofs.Common.{refl, length, ap, sym}
use Rattle.std.proofs.lemmas.Result.{err_from_is_err_and}
use Rattle.ec_cert_text.specs.Views.{at_view}
use Rattle.ec_cert_text.proofs.CourseLemmas.{no_slots, no_units, no_order, no_best, no_level, no_start, no_tree, no_last, by_kinds}
use Rattle.ec_cert_text.proofs.reading.parts_of.Goals as goal

pub returns-in_err-slots : goal.returns-in_err-slots
returns-in_err-slots c =
    let p = err_from_is_err_and c.from_residual.result c.from_residual.ensures.1 in
    rw (p.1, p.2) (no_slots c.args.version (at_view c.args.place) c.in_err-slots.field-0.0 c.in_err-slots.ensures)

pub returns-in_err-units : goal.returns-in_err-units
returns-in_err-units c =
    let p = err_from_is_err_and c.from_residual-in_err-units.result c.from_residual-in_err-units.ensures.1 in
    rw (p.1, p.2) (no_units c.args.version (at_view c.args.place) c.in_err-units.field-0.0 c.in_ok-slots.ensures c.in_err-units.ensures.exact)

pub returns-in_err-order : goal.returns-in_err-order
returns-in_err-order c =
    let p = err_from_is_err_and c.from_residual-in_err-order.result c.from_residual-in_err-order.ensures.1 in
    rw (p.1, p.2) (no_order c.args.version (at_view c.args.place) c.in_err-order.field-0.0 c.in_ok-slots.ensures c.in_ok-units.ensures.exact (ap length (sym c.as_slice.ensures)) c.in_err-order.ensures)

pub returns-in_err-best : goal.returns-in_err-best
returns-in_err-best c =
    let p = err_from_is_err_and c.from_residual-in_err-best.result c.from_residual-in_err-best.ensures.1 in
    rw (p.1, p.2) (no_best c.args.version (at_view c.args.place) c.in_err-best.field-0.0 c.in_ok-slots.ensures c.in_ok-units.ensures.exact (ap length (sym c.as_slice.ensures)) c.in_ok-order.ensures c.in_err-best.ensures)

pub returns-in_err-level : goal.returns-in_err-level
returns-in_err-level c =
    let p = err_from_is_err_and c.from_residual-in_err-level.result c.from_residual-in_err-level.ensures.1 in
    rw (p.1, p.2) (no_level c.args.version (at_view c.args.place) c.in_err-level.field-0.0 c.in_ok-slots.ensures c.in_ok-units.ensures.exact (ap length (sym c.as_slice.ensures)) c.in_ok-order.ensures c.in_ok-best.ensures c.in_err-level.ensures)

pub returns-in_err-rest : goal.returns-in_err-rest
returns-in_err-rest c =
    let p = err_from_is_err_and c.from_residual-in_err-rest.result c.from_residual-in_err-rest.ensures.1 in
    rw (p.1, p.2) (no_start c.args.version (at_view c.args.place) c.in_err-rest.field-0.0 c.in_ok-slots.ensures c.in_ok-units.ensures.exact (ap length (sym c.as_slice.ensures)) c.in_ok-order.ensures c.in_ok-best.ensures c.in_ok-level.ensures c.in_err-rest.ensures)

pub returns-in_err-tree : goal.returns-in_err-tree
returns-in_err-tree c =
    let p = err_from_is_err_and c.from_residual-in_err-tree.result c.from_residual-in_err-tree.ensures.1 in
    rw (p.1, p.2) (no_tree c.args.version (at_view c.args.place) c.in_err-tree.field-0.0 c.in_ok-slots.ensures c.in_ok-units.ensures.exact (ap length (sym c.as_slice.ensures)) c.in_ok-order.ensures c.in_ok-best.ensures c.in_ok-level.ensures c.in_ok-rest.ensures c.kinds_of-kinds.ensures c.in_err-tree.ensures)

pub returns-in_err-end_of : goal.returns-in_err-end_of
returns-in_err-end_of c =
    let p = err_from_is_err_and c.from_residual-in_err-end_of.result c.from_residual-in_err-end_of.ensures.1 in
    rw (p.1, p.2) (no_last c.args.version (at_view c.args.place) c.in_err-end_of.field-0.0 c.in_ok-slots.ensures c.in_ok-units.ensures.exact (ap length (sym c.as_slice.ensures)) c.in_ok-order.ensures c.in_ok-best.ensures c.in_ok-level.ensures c.in_ok-rest.ensures c.kinds_of-kinds.ensures c.in_ok-tree.ensures c.in_err-end_of.ensures)

pub returns : goal.returns
unfolding Rattle.ec_cert_text.specs.Reading.parts_at
returns c =
    rw (c.in_ok-slots.ensures, c.in_ok-units.ensures.exact, ap length (sym c.as_slice.ensures), c.in_ok-order.ensures, c.in_ok-best.ensures, c.in_ok-level.ensures, c.in_ok-rest.ensures, by_kinds c.kinds_of-kinds.result _ (at_view c.in_ok-rest.rest) _ c.kinds_of-kinds.ensures c.in_ok-tree.ensures, c.in_ok-end_of.ensures) refl
