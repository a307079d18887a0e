use Rattle.std.proofs.Common.{◌≡◌, vec_len, vec_capacity, length, All}
use Rattle.ec_book_shared.specs.Seats.{IsOf}
use Rattle.ec_search_threads.proofs.threads.out_of_slots.Given as goal

abbrev pub invariant-loop-slot : goal.invariant-loop-slot
invariant-loop-slot g l =
    (vec_len l.seats ≡ length l.yielded) × (vec_capacity l.seats ≡ vec_capacity l.initial.seats)
    × All (λ s. IsOf g.S.Search.loads g.S.Search.slots g.S.Search.order s) l.seats.items
