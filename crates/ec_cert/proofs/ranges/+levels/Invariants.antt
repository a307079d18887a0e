use Rattle.ec_cert.proofs.TreeLemmas.{SameLevels}
use Rattle.ec_cert.proofs.ranges.+levels.Given as goal

abbrev pub invariant-have_levels-children : goal.invariant-have_levels-children
invariant-have_levels-children l = SameLevels l.kinds l.levels l.tree-items l.tree-index
