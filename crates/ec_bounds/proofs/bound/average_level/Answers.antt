use Rattle.std.proofs.Common.{◌≡◌, ◌∙◌, arith}
use Rattle.std.proofs.lemmas.Grind.{common_steps}
use Rattle.ec_hyper.specs.Lcm.{lcm_of}
use Rattle.ec_units.specs.Load.{periods_of}
use Rattle.ec_loads.specs.Search.{least_raw, demand}
use Rattle.ec_bounds.specs.Left.{demand_of}
use Rattle.ec_bounds.proofs.LeftLemmas.{ceil-most, demand-flags}
use Rattle.ec_bounds.proofs.bound.average_level.Goals as goal

pub returns : goal.returns
returns c = λ rest b.
    let held = c.args.loads.now in
    let h = lcm_of (periods_of held.loads) in
    let left : c.demand.result ≡ demand held.loads held.places h =
    c.demand.ensures.value ∙ (λ i. demand_of (rest.loads i) (rest.unplaced i) (lcm_of (periods_of (rest.loads i)))) ∙ demand-flags held.loads held.places h in
    ceil-most b _ _ c.div_ceil.result h (least_raw held.loads held.slots held.places h)
    (grind (arith, common_steps, left)) (grind (arith, common_steps)) (grind (arith, common_steps)) c.div_ceil.ensures
