use Rattle.ec_search_threads.proofs.Leaving.{back_leaves}
use Rattle.std.proofs.Common.{arith}
use Rattle.ec_search_threads.proofs.crew_desk.CrewDeskDesk.give_back.Goals as goal

pub returns : goal.returns
returns g c = grind (arith, back_leaves)
