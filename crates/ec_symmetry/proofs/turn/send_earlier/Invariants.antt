use Rattle.ec_symmetry.proofs.SendLemmas.{Sent}
use Rattle.ec_symmetry.proofs.turn.send_earlier.Given as goal

abbrev pub invariant-loop-i : goal.invariant-loop-i
invariant-loop-i l = Sent l.ticks l.units l.initial.places l.places l.i
