use Rattle.std.proofs.Common.{rules}
use Rattle.ec_wire.proofs.io.Io.new.Goals as goal

pub returns-clause-failed : goal.returns-clause-failed
returns-clause-failed g c = search rules
