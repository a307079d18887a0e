use Rattle.std.proofs.Common.{rules}
use Rattle.ec_book_shared.proofs.locked.Locked.report.Goals as goal

pub returns-in-Ok-clause-book : goal.returns-in-Ok-clause-book
returns-in-Ok-clause-book g c = search rules

pub returns-in-Ok-clause-welcome : goal.returns-in-Ok-clause-welcome
returns-in-Ok-clause-welcome g c = search rules

pub returns-in-Ok-clause-known : goal.returns-in-Ok-clause-known
returns-in-Ok-clause-known g c = search rules

pub returns-in-Ok-clause-step : goal.returns-in-Ok-clause-step
returns-in-Ok-clause-step g c = search rules

pub returns-in-Ok-clause-amount : goal.returns-in-Ok-clause-amount
returns-in-Ok-clause-amount g c = search rules

pub invariant_of-self : goal.invariant_of-self
invariant_of-self g c = search rules

pub overflow_sub-nodes : goal.overflow_sub-nodes
overflow_sub-nodes g c = search rules
