use Rattle.ec_units.specs.Load.{loads_of}
use Rattle.ec_branch.proofs.FirstLemmas.{no_dearer}
use Rattle.ec_branch.proofs.bettered.first_plan.Goals as goal

pub returns-clause-no_worse : goal.returns-clause-no_worse
returns-clause-no_worse c =
    no_dearer (loads_of c.args.units.now.units) c.args.units.now.slots c.in_ok-loads.loads c.better_on.new.best.cost c.better_on.new.best.places.items c.plan_of.result c.in_ok-loads.ensures c.better_on.ensures.best c.plan_of.ensures
