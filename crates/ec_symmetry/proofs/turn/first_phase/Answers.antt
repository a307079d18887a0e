use Rattle.std.proofs.Common.{rules}
use Rattle.ec_symmetry.proofs.turn.first_phase.Goals as goal

pub returns-in-Some : goal.returns-in-Some
returns-in-Some c = search rules
