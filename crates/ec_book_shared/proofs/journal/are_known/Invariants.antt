use Rattle.std.proofs.Common.{◌≡◌, take, true, map}
use Rattle.ec_book_shared.specs.Receipts.{are_known}
use Rattle.ec_book_shared.proofs.journal.are_known.Given as goal

abbrev pub invariant-loop-step : goal.invariant-loop-step
invariant-loop-step g l = are_known (map (λ s. s.worker) l.seats) (take l.step-index l.log) ≡ true
