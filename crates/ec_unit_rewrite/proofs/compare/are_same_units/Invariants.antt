use Rattle.ec_unit_rewrite.specs.Placing.{bare}
use Rattle.ec_unit_rewrite.proofs.SameLemmas.{Same}
use Rattle.ec_unit_rewrite.proofs.compare.are_same_units.Given as goal

abbrev pub invariant-loop-i : goal.invariant-loop-i
invariant-loop-i l = Same bare bare l.these l.others l.i
