use Rattle.std.proofs.Common.{rules}
use Rattle.ec_slave.proofs.datagram.count.Goals as goal

pub returns-then-gain-ne0 : goal.returns-then-gain-ne0
returns-then-gain-ne0 c = search rules
