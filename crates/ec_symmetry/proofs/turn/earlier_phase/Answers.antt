use Rattle.std.proofs.Common.{rules}
use Rattle.ec_symmetry.proofs.turn.earlier_phase.Goals as goal

pub returns : goal.returns
returns c = search rules
