use Rattle.std.proofs.Common.{arith}
use Rattle.std.proofs.lemmas.Grind.{common_steps}
use Rattle.ec_symmetry.proofs.rename.make_canonical.Goals as goal

pub returns : goal.returns
returns c = grind (arith, common_steps)
