use Rattle.std.proofs.Common.{rules}
use Rattle.ec_wire.proofs.wire.ns_of.Goals as goal

pub returns : goal.returns
returns c = search rules
