use Rattle.std.proofs.Common.{rules}
use Rattle.ec_unit_rewrite.proofs.placing.units_in.Goals as goal

pub returns-in-Err-OutOfMemory-clause-none : goal.returns-in-Err-OutOfMemory-clause-none
returns-in-Err-OutOfMemory-clause-none c = search rules
