use Rattle.std.proofs.Common.{◌<◌, length}
use Rattle.ec_search_threads.proofs.threads.deal.Given as goal

abbrev pub invariant-loop-piece : goal.invariant-loop-piece
invariant-loop-piece g l = l.next < length l.slots
