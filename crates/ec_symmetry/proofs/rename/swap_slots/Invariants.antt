use Rattle.ec_symmetry.proofs.RenameLemmas.{Swapped}
use Rattle.ec_symmetry.proofs.rename.swap_slots.Given as goal

abbrev pub invariant-loop-i : goal.invariant-loop-i
invariant-loop-i l = Swapped l.first l.second l.initial.places l.places l.i
