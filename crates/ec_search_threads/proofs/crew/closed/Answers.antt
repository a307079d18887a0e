use Rattle.std.proofs.Common.{rules}
use Rattle.ec_search_threads.proofs.crew.closed.Goals as goal

pub returns-in-Ok-clause-closed : goal.returns-in-Ok-clause-closed
returns-in-Ok-clause-closed g c = search rules

pub returns-in-Err-Journal-clause-journal : goal.returns-in-Err-Journal-clause-journal
returns-in-Err-Journal-clause-journal g c = search rules
