use Rattle.std.proofs.Common.{rules}
use Rattle.ec_bounds.proofs.weight.least_weight.Goals as goal

pub loop-phase-preserved : goal.loop-phase-preserved
loop-phase-preserved c = search rules

pub returns-clause-value : goal.returns-clause-value
returns-clause-value c = search rules
