use Rattle.std.proofs.Common.{take, All}
use Rattle.ec_book_shared.specs.Receipts.{AreOwn}
use Rattle.ec_book_shared.proofs.journal.all_own.Given as goal

abbrev pub invariant-loop-seat : goal.invariant-loop-seat
invariant-loop-seat g l = All (λ s. AreOwn s.worker s.receipts l.log) (take l.seat-index l.seats)
