use Rattle.std.proofs.Common.{arith, sym, ◌∙◌, inl, refl, subst, Bool}
use Rattle.ec_book_shared.specs.Receipts.{holds}
use Rattle.ec_book_shared.specs.Seats.{HasBook, IsBackFault, seat_view}
use Rattle.ec_book_shared.proofs.Books.{of_seat}
use Rattle.ec_book_shared.proofs.Holding.{fewer, at_most}
use Rattle.ec_book_shared.proofs.shared.Shared.back.Goals as goal

pub note-requires-clause-room : goal.note-requires-clause-room
note-requires-clause-room g c =
    let less = fewer c.seat.inside.receipts.held.items c.args.piece (sym c.holds-holds.ensures.held ∙ c.in-Ok.ensures.holds) in
    let room = c.seat.inside.receipts.room in
    omega (arith, less, room)

pub note-requires-clause-held : goal.note-requires-clause-held
note-requires-clause-held g c = let most = at_most c.seat.inside.receipts.held.items c.args.piece in omega (arith, most)

pub returns-in-Err-clause-err : goal.returns-in-Err-clause-err
returns-in-Err-clause-err g c =
    let s = c.seat.inside in
    let ours = rw (← c.seat.view_is) at (c.is_for.ensures.0 c.if-not-is_for.false) in
    let why =
    subst (λ (w : Bool). HasBook g.S.Search.loads g.S.Search.slots g.S.Search.order g.S.Search.rules g.S.Search.given g.S.Search.given_value g.S.Search.nodes g.S.Search.part (λ b. IsBackFault w b s.worker c.args.piece c.in-Err.fault)) c.holds-holds.ensures.value c.in-Err.ensures.err in
    rw (← c.seat.view_is) (
      inl (
        ours,
        of_seat g.S.Search.loads g.S.Search.slots g.S.Search.order g.S.Search.rules g.S.Search.given g.S.Search.given_value g.S.Search.nodes g.S.Search.part (seat_view s.units.now.units s.units.now.slots s.order.now s.worker s.receipts.steps.items s.share.amount)
            (λ b. IsBackFault (holds s.receipts.steps.items c.args.piece) b s.worker c.args.piece c.in-Err.fault) ours why,
      ),
      refl,
    )
