use Rattle.std.proofs.Common.{rules}
use Rattle.ec_loads.proofs.rows.greatest.Goals as goal

pub loop-tick-preserved : goal.loop-tick-preserved
loop-tick-preserved c = search rules
