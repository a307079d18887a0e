use Rattle.ec_search_queues.proofs.Counting.{pushes}
use Rattle.ec_search_queues.proofs.deques.Deques.push.Goals as goal

pub push_as-requires-clause-pushes : goal.push_as-requires-clause-pushes
push_as-requires-clause-pushes c = pushes _ _ _
