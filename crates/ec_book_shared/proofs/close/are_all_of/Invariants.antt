use Rattle.std.proofs.Common.{take, All}
use Rattle.ec_book_shared.specs.Seats.{IsOf}
use Rattle.ec_book_shared.proofs.close.are_all_of.Given as goal

abbrev pub invariant-loop-seat : goal.invariant-loop-seat
invariant-loop-seat g l = All (λ s. IsOf l.loads l.slots l.order s) (take l.seat-index l.seats)
