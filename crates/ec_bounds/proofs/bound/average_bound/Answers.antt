use Rattle.std.proofs.Common.{◌≡◌, ◌∙◌, arith}
use Rattle.ec_hyper.specs.Lcm.{lcm_of}
use Rattle.ec_units.specs.Load.{periods_of}
use Rattle.ec_loads.specs.Search.{least_raw, demand}
use Rattle.ec_bounds.specs.Left.{demand_of}
use Rattle.ec_bounds.proofs.LeftLemmas.{average-iff, demand-flags}
use Rattle.ec_bounds.proofs.bound.average_bound.Goals as goal

pub returns : goal.returns
returns c = λ rest.
    let held = c.args.loads.now in
    let h = lcm_of (periods_of held.loads) in
    let left : c.demand.result ≡ demand held.loads held.places h =
    c.demand.ensures.value ∙ (λ i. demand_of (rest.loads i) (rest.unplaced i) (lcm_of (periods_of (rest.loads i)))) ∙ demand-flags held.loads held.places h in
    let ticks = c.from-ticks.ensures ∙ c.ticks.ensures.value in
    average-iff c.args.value c.in-Some.value c.from-3.result c.from-ticks.result _ h (least_raw held.loads held.slots held.places h) c.in-Some.is c.from-3.ensures ticks
    (omega (arith, c.from.ensures, c.from-2.ensures, c.raw_total.ensures.value, left, ticks))

pub returns-in_default : goal.returns-in_default
returns-in_default c = λ rest. (λ yes. absurd cc, λ holds. absurd (c.in_default.not-Some holds.0 holds.1))
