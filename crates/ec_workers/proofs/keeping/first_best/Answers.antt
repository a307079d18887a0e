use Rattle.std.proofs.Common.{subst}
use Rattle.ec_units.specs.Load.{loads_of}
use Rattle.ec_loads.specs.Search.{IsAtMost}
use Rattle.ec_cert.specs.IsBestPlan.{value_of}
use Rattle.ec_workers.proofs.KeptLemmas.{own_value}
use Rattle.ec_workers.proofs.keeping.first_best.Goals as goal

pub returns-clause-value : goal.returns-clause-value
returns-clause-value c =
    λ ps b own legal at.
    let us = c.args.units.now in
    let kept = own_value (loads_of us.units) us.slots c.in_ok-kept_plan.field-0 c.best_of-kept.result ps b (c.in_ok-kept_plan.ensures.own ps own legal) c.best_of-kept.ensures.value at in
    subst (IsAtMost (value_of c.cheaper.result)) kept c.cheaper.ensures.value
