use Rattle.std.proofs.Common.{◌≡◌, ◌==◌, take, false}
use Rattle.std.specs.List.{list_any}
use Rattle.ec_book_shared.proofs.journal.has_seat.Given as goal

abbrev pub invariant-loop-seat : goal.invariant-loop-seat
invariant-loop-seat g l = list_any (λ s. s.worker == l.worker) (take l.seat-index l.seats) ≡ false
