use Rattle.std.proofs.Common.{arith, sym, ◌∙◌}
use Rattle.ec_symmetry.proofs.LatestLemmas.{phases_whole}
use Rattle.ec_symmetry.proofs.strong.is_period_placed.Goals as goal

pub returns-then-is_some : goal.returns-then-is_some
returns-then-is_some c = λ _. phases_whole c.args.loads.now c.args.places.now c.loop-i.i c.args.period _ _ c.requires.units c.requires.period c.loop-i-test.true (omega (arith, c.requires.each)) (sym c.is_some.ensures ∙ c.if-is_some.true) c.if-loads-i.true
