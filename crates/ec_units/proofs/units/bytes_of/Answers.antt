use Rattle.std.proofs.Common.{rules}
use Rattle.ec_units.proofs.units.bytes_of.Goals as goal

pub loop-slave-preserved : goal.loop-slave-preserved
loop-slave-preserved c = search rules
