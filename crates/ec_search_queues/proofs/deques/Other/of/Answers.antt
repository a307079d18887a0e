use Rattle.ec_search_queues.proofs.Counting.{admits}
use Rattle.ec_search_queues.proofs.deques.Other.of.Goals as goal

pub pass-pass-requires : goal.pass-pass-requires
pass-pass-requires c = admits
