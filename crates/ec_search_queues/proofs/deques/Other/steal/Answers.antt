use Rattle.ec_search_queues.proofs.Counting.{takes}
use Rattle.ec_search_queues.proofs.deques.Other.steal.Goals as goal

pub steal_as-requires-clause-takes : goal.steal_as-requires-clause-takes
steal_as-requires-clause-takes c = takes _ _ 1
