use Rattle.ec_book.proofs.PartLemmas.{IsPart}
use Rattle.ec_book.proofs.tree.+filled.Given as goal

abbrev pub decreases-filled : goal.decreases-filled
decreases-filled l = goal.size-filled l

abbrev pub invariant-loop-i : goal.invariant-loop-i
invariant-loop-i l = IsPart l.initial.trees.items l.trees.items l.fn.built.items l.built.items l.i

abbrev pub decreases-loop-i : goal.decreases-loop-i
decreases-loop-i l = l.i
