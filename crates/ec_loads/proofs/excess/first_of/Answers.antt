use Rattle.std.proofs.Common.{rules}
use Rattle.ec_loads.proofs.excess.first_of.Goals as goal

pub returns-in-Some-clause-kept : goal.returns-in-Some-clause-kept
returns-in-Some-clause-kept c = search rules

pub returns-in-None-2-clause-reached : goal.returns-in-None-2-clause-reached
returns-in-None-2-clause-reached c = search rules
