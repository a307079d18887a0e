use Rattle.ec_loads.proofs.CostLemmas.{payload-mod, tick_cost-mod, most-below, DivideAll-items}
use Rattle.ec_loads.specs.Cost.{items}
use Rattle.ec_loads.proofs.law.law_ticks_repeat.Goals as goal

pub returns-clause-repeat : goal.returns-clause-repeat
returns-clause-repeat c = λ loads places h n t is.
    let d = DivideAll-items loads places h is.multiple in
    (λ s. payload-mod (items loads places) h t s d, tick_cost-mod (items loads places) n h t d)

pub returns-clause-suffice : goal.returns-clause-suffice
returns-clause-suffice c = λ loads places h n b is pos most.
    most-below (items loads places) n h b pos (DivideAll-items loads places h is.multiple) most
