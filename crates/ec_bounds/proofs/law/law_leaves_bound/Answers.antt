use Rattle.ec_bounds.proofs.LeafLemmas.{leaf-bounds}
use Rattle.ec_bounds.proofs.law.law_leaves_bound.Goals as goal

pub returns : goal.returns
returns c = leaf-bounds
