use Rattle.std.proofs.Common.{rules}
use Rattle.ec_loads.proofs.rows.first_reaching.Goals as goal

pub loop-i-preserved : goal.loop-i-preserved
loop-i-preserved c = search rules
