use Rattle.std.proofs.Common.{rules}
use Rattle.ec_loads.proofs.legal.full_slot.Goals as goal

pub returns : goal.returns
returns c = search rules
