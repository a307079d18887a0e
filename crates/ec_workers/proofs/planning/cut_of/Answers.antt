use Rattle.std.proofs.Common.{rules}
use Rattle.ec_workers.proofs.planning.cut_of.Goals as goal

pub returns-then-spent-from-clause-budget : goal.returns-then-spent-from-clause-budget
returns-then-spent-from-clause-budget c = search rules

pub returns-then-spent-from-clause-memory : goal.returns-then-spent-from-clause-memory
returns-then-spent-from-clause-memory c = search rules

pub returns-then-spent-from-clause-agrees : goal.returns-then-spent-from-clause-agrees
returns-then-spent-from-clause-agrees c = search rules
