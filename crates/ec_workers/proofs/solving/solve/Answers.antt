use Rattle.std.proofs.Common.{rules}
use Rattle.ec_workers.proofs.solving.solve.Goals as goal

pub returns-clause-outcome : goal.returns-clause-outcome
returns-clause-outcome g c = search rules

pub solve_by_crew-requires-clause-workers : goal.solve_by_crew-requires-clause-workers
solve_by_crew-requires-clause-workers g c = search rules
