use Rattle.ec_book_shared.proofs.Journaled.{Goes}
use Rattle.ec_book_shared.proofs.journal.are_own.Given as goal

abbrev pub invariant-loop-step : goal.invariant-loop-step
invariant-loop-step l = Goes l.worker l.receipts l.log l.left l.step-index
