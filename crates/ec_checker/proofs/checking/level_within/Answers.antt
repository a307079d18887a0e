use Rattle.std.proofs.Common.{rules}
use Rattle.ec_checker.proofs.checking.level_within.Goals as goal

pub returns-in_default-clause-ok : goal.returns-in_default-clause-ok
returns-in_default-clause-ok c = search rules

pub returns-in-Some-Some-clause-fault : goal.returns-in-Some-Some-clause-fault
returns-in-Some-Some-clause-fault c = search rules
