use Rattle.std.proofs.Common.{arith, sym, rules}
use Rattle.std.proofs.lemmas.Nat.Gcd.{IsGcd-from_zero, IsGcd-from_mod, le_of_dvd}
use Rattle.ec_symmetry.proofs.GcdLemmas.{gcd-only}
use Rattle.ec_symmetry.proofs.strong.common_divisor.Goals as goal

pub loop-less-preserved : goal.loop-less-preserved
loop-less-preserved c g h = c.loop-less.invariant g (IsGcd-from_mod _ _ g h)

pub returns-clause-value : goal.returns-clause-value
returns-clause-value c =
    sym (gcd-only c.args.first c.args.second c.loop-less.greater c.requires (c.loop-less.invariant c.loop-less.greater (IsGcd-from_zero _ _ (omega arith))))

pub returns-clause-bound : goal.returns-clause-bound
returns-clause-bound c = le_of_dvd c.requires (c.loop-less.invariant c.loop-less.greater (IsGcd-from_zero _ _ (omega arith))).1

pub loop-less-init : goal.loop-less-init
loop-less-init c = search rules
