use Rattle.ec_symmetry.proofs.StrongLemmas.{strong-reach}
use Rattle.ec_symmetry.proofs.law.law_strong_children_reach.Goals as goal

pub returns : goal.returns
returns c = strong-reach
