use Rattle.std.proofs.Common.{All, subst, arith, ◌∙◌}
use Rattle.std.proofs.lemmas.List.{length_push}
use Rattle.std.specs.Vec.Iter.{into_iter_items}
use Rattle.ec_book_shared.specs.Seats.{SeatView, IsOf}
use Rattle.ec_search_queues.specs.Lowest.{ReaderView, IsNewReader}
use Rattle.ec_search_queues.proofs.Rows.{all_head, all_tail}
use Rattle.ec_search_threads.proofs.Rows.{tails_even}
use Rattle.ec_search_threads.proofs.threads.into_slots.Goals as goal

pub invariant_of-new-clause-ours : goal.invariant_of-new-clause-ours
invariant_of-new-clause-ours g c =
    let P : SeatView → Type 0 = λ s. IsOf g.S.Search.loads g.S.Search.slots g.S.Search.order s in
    all_head P c.in-Some.seat (into_iter_items c.next.new.self) (subst (All P) c.in-Some.ensures.steps.0 c.loop-seat.invariant.2)

pub loop-seat-preserved : goal.loop-seat-preserved
loop-seat-preserved g c =
    let P : SeatView → Type 0 = λ s. IsOf g.S.Search.loads g.S.Search.slots g.S.Search.order s in
    let Q : ReaderView → Type 0 = λ r. IsNewReader c.args.bound.now r in
    let seats = c.in-Some.ensures.steps.0 in
    let readers = c.in-Some-next.ensures.items in
    let tickets = c.in-Some-next-2.ensures.items in
    let n = length_push c.loop-seat.yielded c.in-Some.seat in
    let len = c.push_reserved.ensures.len in
    let cap = c.push_reserved.ensures.capacity in
    let was = c.loop-seat.invariant.0 in
    let is = c.loop-seat.invariant.1 in (
      omega (arith, n, len, was),
      cap ∙ is,
      all_tail P c.in-Some.seat (into_iter_items c.next.new.self) (subst (All P) seats c.loop-seat.invariant.2),
      tails_even _ (into_iter_items c.next-in-loop-seat.new.self) _ (into_iter_items c.next.new.self) _ _ readers seats c.loop-seat.invariant.3,
      all_tail Q c.in-Some-next.reader (into_iter_items c.next-in-loop-seat.new.self) (subst (All Q) readers c.loop-seat.invariant.4),
      tails_even _ (into_iter_items c.next-in-loop-seat-2.new.self) _ (into_iter_items c.next.new.self) _ _ tickets seats c.loop-seat.invariant.5,
    )
