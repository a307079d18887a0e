use Rattle.std.proofs.Common.{◌≡◌, vec_len, length, All}
use Rattle.std.specs.Vec.Iter.{into_iter_items}
use Rattle.ec_search_queues.specs.Counted.{AreNew}
use Rattle.ec_search_queues.specs.Hands.{IsNew}
use Rattle.ec_search_queues.proofs.tickets.Tickets.new.Given as goal

abbrev pub invariant-loop-deques : goal.invariant-loop-deques
invariant-loop-deques l = (vec_len l.all ≡ length l.yielded) × All (AreNew l.workers) l.all.items × All (IsNew l.workers) (into_iter_items l.deques-iterator)
