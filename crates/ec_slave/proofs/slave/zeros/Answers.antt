use Rattle.std.proofs.Common.{rules}
use Rattle.ec_slave.proofs.slave.zeros.Goals as goal

pub returns : goal.returns
returns c = search rules
