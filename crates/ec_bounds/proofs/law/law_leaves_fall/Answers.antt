use Rattle.ec_bounds.proofs.LeafLemmas.{leaf-falls}
use Rattle.ec_bounds.proofs.law.law_leaves_fall.Goals as goal

pub returns : goal.returns
returns c = leaf-falls
