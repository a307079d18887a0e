use Rattle.std.specs.Prelude.{Some}
use Rattle.ec_unit_rewrite.specs.Placing.{place_of}
use Rattle.ec_unit_rewrite.proofs.SameLemmas.{Same}
use Rattle.ec_unit_rewrite.proofs.compare.are_at.Given as goal

abbrev pub invariant-loop-i : goal.invariant-loop-i
invariant-loop-i l = Same place_of (λ p. Some p) l.units l.places l.i
