use Rattle.std.proofs.Common.{rules}
use Rattle.ec_slave.proofs.request.is_left_out.Goals as goal

pub returns-in_default : goal.returns-in_default
returns-in_default c = search rules
