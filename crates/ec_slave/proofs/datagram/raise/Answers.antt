use Rattle.std.proofs.Common.{rules}
use Rattle.ec_slave.proofs.datagram.raise.Goals as goal

pub returns-in-Position : goal.returns-in-Position
returns-in-Position c = search rules
