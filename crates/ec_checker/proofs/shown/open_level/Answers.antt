use Rattle.std.proofs.Common.{arith}
use Rattle.std.proofs.lemmas.Grind.{common_steps}
use Rattle.ec_checker.proofs.LevelLemmas.{open_most}
use Rattle.ec_checker.proofs.shown.open_level.Goals as goal

pub returns : goal.returns
returns c = λ rules m.
    open_most rules c.args.loads.now c.top-most.result.0 c.top-most.result.1 c.average_level.result _ c.top-most.ensures.busiest (c.average_level.ensures c.requires)
    (grind (arith, common_steps)) m
