use Rattle.ec_cert_merge.proofs.LoopLemmas.{IsPart}
use Rattle.ec_cert_merge.proofs.tree.+merged.Given as goal

abbrev pub decreases-merged : goal.decreases-merged
decreases-merged l = goal.size-merged l

abbrev pub invariant-loop-i : goal.invariant-loop-i
invariant-loop-i l = IsPart l.initial.trees.items l.initial.rest.items l.trees.items l.rest.items l.i

abbrev pub decreases-loop-i : goal.decreases-loop-i
decreases-loop-i l = l.i
