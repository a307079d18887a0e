use Rattle.ec_units.specs.Views.{slave_view}
use Rattle.ec_unit_rewrite.proofs.SameLemmas.{Same}
use Rattle.ec_unit_rewrite.proofs.compare.are_same_slaves.Given as goal

abbrev pub invariant-loop-i : goal.invariant-loop-i
invariant-loop-i l = Same slave_view slave_view l.these l.others l.i
