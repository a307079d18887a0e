use Rattle.std.proofs.Common.{rules}
use Rattle.ec_slave.proofs.access.access.Goals as goal

pub returns-then-is_empty-clause-memory : goal.returns-then-is_empty-clause-memory
returns-then-is_empty-clause-memory c = search rules

pub returns-then-is_empty-clause-reply : goal.returns-then-is_empty-clause-reply
returns-then-is_empty-clause-reply c = search rules

pub returns-then-is_empty-clause-gain : goal.returns-then-is_empty-clause-gain
returns-then-is_empty-clause-gain c = search rules

pub returns-clause-reply : goal.returns-clause-reply
returns-clause-reply c = search rules

pub returns-clause-gain : goal.returns-clause-gain
returns-clause-gain c = search rules
