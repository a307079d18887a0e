use Rattle.std.proofs.Common.{◌≡◌, vec_len, vec_capacity, length, All}
use Rattle.std.specs.Vec.Iter.{into_iter_items}
use Rattle.ec_book_shared.specs.Seats.{IsOf}
use Rattle.ec_search_queues.specs.Lowest.{IsNewReader}
use Rattle.ec_search_threads.proofs.threads.into_slots.Given as goal

abbrev pub invariant-loop-seat : goal.invariant-loop-seat
invariant-loop-seat g l =
    (vec_len l.slots ≡ length l.yielded) × (vec_capacity l.slots ≡ vec_capacity l.initial.slots)
    × All (λ s. IsOf g.S.Search.loads g.S.Search.slots g.S.Search.order s) (into_iter_items l.seat-iterator)
    × (length (into_iter_items l.all_readers) ≡ length (into_iter_items l.seat-iterator)) × All (IsNewReader l.bound) (into_iter_items l.all_readers)
    × (length (into_iter_items l.all_tickets) ≡ length (into_iter_items l.seat-iterator))
