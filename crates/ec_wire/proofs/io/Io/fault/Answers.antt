use Rattle.std.proofs.Common.{rules}
use Rattle.ec_wire.proofs.io.Io.fault.Goals as goal

pub returns : goal.returns
returns g c = search rules
