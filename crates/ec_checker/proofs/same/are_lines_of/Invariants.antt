use Rattle.ec_checker.proofs.HeadLemmas.{SameLines}
use Rattle.ec_checker.proofs.same.are_lines_of.Given as goal

abbrev pub invariant-loop-i : goal.invariant-loop-i
invariant-loop-i l = SameLines l.lines l.units l.i
