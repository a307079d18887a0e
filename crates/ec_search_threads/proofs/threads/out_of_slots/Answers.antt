use Rattle.std.proofs.Common.{All, arith, subst, sym, ◌∙◌}
use Rattle.std.proofs.lemmas.List.{length_push}
use Rattle.ec_book_shared.specs.Seats.{SeatView, IsOf}
use Rattle.ec_search_queues.proofs.Rows.{all_push}
use Rattle.ec_search_threads.proofs.threads.out_of_slots.Goals as goal

pub loop-slot-preserved : goal.loop-slot-preserved
loop-slot-preserved g c =
    let P : SeatView → Type 0 = λ s. IsOf g.S.Search.loads g.S.Search.slots g.S.Search.order s in
    let n = length_push c.loop-slot.yielded c.in-Some.slot in
    let inv = c.loop-slot.invariant in
    let len = c.push_reserved.ensures.len in (
      omega (arith, n, len, inv.0),
      c.push_reserved.ensures.capacity ∙ inv.1,
      subst (All P) (sym c.push_reserved.ensures.items) (all_push P c.loop-slot.seats.items c.into_inner-seat.result.seat inv.2 c.into_inner-seat.result.ours),
    )
