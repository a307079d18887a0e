use Rattle.std.proofs.Common.{rules}
use Rattle.ec_slave.proofs.logical.gain_of.Goals as goal

pub returns-then-met_write : goal.returns-then-met_write
returns-then-met_write c = search rules
