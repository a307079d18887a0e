use Rattle.std.proofs.Common.{rules}
use Rattle.ec_slave.proofs.access.gain_of.Goals as goal

pub returns-then-request-2 : goal.returns-then-request-2
returns-then-request-2 c = search rules
