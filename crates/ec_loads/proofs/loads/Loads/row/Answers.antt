use Rattle.std.proofs.Common.{rules}
use Rattle.ec_loads.proofs.loads.Loads.row.Goals as goal

pub returns-then-tick-ticks-clause-value : goal.returns-then-tick-ticks-clause-value
returns-then-tick-ticks-clause-value c = search rules
