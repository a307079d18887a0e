use Rattle.std.proofs.Common.{rules}
use Rattle.ec_search_queues.proofs.deques.Deques.others_of.Goals as goal

pub returns-clause-count : goal.returns-clause-count
returns-clause-count c = search rules
