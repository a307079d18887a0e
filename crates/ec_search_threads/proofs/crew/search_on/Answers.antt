use Rattle.std.proofs.Common.{◌≡◌, All, subst, sym}
use Rattle.ec_book_shared.specs.Seats.{SeatView, IsOf, first_seats}
use Rattle.ec_search_threads.proofs.Rows.{first_hold}
use Rattle.ec_search_threads.proofs.crew.search_on.Goals as goal

pub into_slots-slots-requires-clause-ours : goal.into_slots-slots-requires-clause-ours
into_slots-slots-requires-clause-ours g c =
    let P : SeatView → Type 0 = λ s. IsOf g.S.Search.loads g.S.Search.slots g.S.Search.order s in
    let us = c.args.units.now.units in
    let made : c.in-Ok-new.seats.items ≡ first_seats us c.args.units.now.slots c.args.order.now c.args.workers = c.in-Ok-new.ensures.seats in
    subst (All P) (sym made) (first_hold P us c.args.units.now.slots c.args.order.now c.args.workers (λ _. c.requires.search))
