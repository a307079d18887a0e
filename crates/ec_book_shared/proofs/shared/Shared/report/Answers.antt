use Rattle.std.proofs.Common.{inl, ◌∙◌}
use Rattle.ec_loads.specs.Search.{node_count}
use Rattle.ec_cert.specs.IsBestPlan.{value_of}
use Rattle.ec_cert.specs.Shapes.{shape_of}
use Rattle.ec_book.specs.Views.{BookView}
use Rattle.ec_book.specs.Faults.{IsReportFault}
use Rattle.ec_book_shared.specs.Seats.{seat_view}
use Rattle.ec_book_shared.proofs.Books.{of_seat, of_book}
use Rattle.ec_book_shared.proofs.shared.Shared.report.Goals as goal

pub returns-in-Err-clause-err : goal.returns-in-Err-clause-err
returns-in-Err-clause-err g c =
    let s = c.seat.inside in
    let ours = rw (← c.seat.view_is) at (c.is_for.ensures.0 c.if-not-is_for.false) in
    let same = c.counted-counted.ensures.sub in
    let fault : BookView → Type 0 = λ b. IsReportFault b.pieces b.prefixes (value_of b.best) s.worker c.args.piece c.args.prefix.now c.args.sub.threshold (node_count (shape_of c.args.sub.tree)) c.in-Err.fault in
    let why = of_book g.S.Search.loads g.S.Search.slots g.S.Search.order g.S.Search.rules g.S.Search.given g.S.Search.given_value g.S.Search.nodes g.S.Search.part _ fault c.in-Err.ensures.some (rw same at c.in-Err.ensures.err.1) in
    rw (← c.seat.view_is) (
      inl (
        ours,
        of_seat g.S.Search.loads g.S.Search.slots g.S.Search.order g.S.Search.rules g.S.Search.given g.S.Search.given_value g.S.Search.nodes g.S.Search.part (seat_view s.units.now.units s.units.now.slots s.order.now s.worker s.receipts.steps.items s.share.amount)
            fault ours why,
      ),
      c.into_sub.ensures ∙ c.in-Err.ensures.err.0 ∙ same,
      λ j. seat_view s.units.now.units s.units.now.slots s.order.now s.worker (c.room_to_end-room.ensures.same j) (c.in-Err.ensures.kept j),
    )
