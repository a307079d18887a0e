use Rattle.std.proofs.Common.{rules}
use Rattle.ec_workers.proofs.crewed.cut_of_crew.Goals as goal

pub returns-then-spent-from-clause-budget : goal.returns-then-spent-from-clause-budget
returns-then-spent-from-clause-budget c = search rules

pub returns-then-spent-from-clause-memory : goal.returns-then-spent-from-clause-memory
returns-then-spent-from-clause-memory c = search rules

pub returns-then-spent-from-clause-journal : goal.returns-then-spent-from-clause-journal
returns-then-spent-from-clause-journal c = search rules
