use Rattle.std.proofs.Common.{rules}
use Rattle.ec_search_queues.proofs.tickets.Tickets.push.Goals as goal

pub returns-clause-pushed : goal.returns-clause-pushed
returns-clause-pushed c = search rules
