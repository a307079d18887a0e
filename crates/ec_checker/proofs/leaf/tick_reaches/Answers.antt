use Rattle.std.proofs.Common.{◌∙◌, arith}
use Rattle.std.proofs.lemmas.Grind.{common_steps}
use Rattle.ec_loads.specs.Line.{slots_alone, line_of}
use Rattle.ec_checker.proofs.LevelLemmas.{reaches_is}
use Rattle.ec_checker.proofs.leaf.tick_reaches.Goals as goal

pub returns : goal.returns
returns c =
    c.is_some.ensures
    ∙ reaches_is (line_of slots_alone c.args.loads.now) c.args.level _ c.args.loads.now.places c.tick_bound.result c.ticks-ticks.ensures.units (grind (arith, common_steps)) c.tick_bound.ensures
