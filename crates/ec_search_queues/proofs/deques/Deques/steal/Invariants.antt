use Rattle.std.proofs.Common.{◌≡◌}
use Rattle.crossbeam_deque.specs.Handles.{worker_view}
use Rattle.ec_search_queues.specs.Hands.{hands}
use Rattle.ec_search_queues.proofs.deques.Deques.steal.Given as goal

abbrev pub invariant-loop-i : goal.invariant-loop-i
invariant-loop-i l = (worker_view l.self.own ≡ worker_view l.initial.self.own) × (hands l.self.others.items ≡ hands l.initial.self.others.items)
