use Rattle.std.proofs.Common.{◌≡◌, ◌<◌, ◌∙◌, length, refl, arith}
use Rattle.ec_hyper.specs.Lcm.{lcm_of}
use Rattle.ec_units.specs.Load.{periods_of}
use Rattle.ec_loads.specs.Weights.{total_weight, weighted_demand}
use Rattle.ec_bounds.specs.Left.{weighted_left}
use Rattle.ec_bounds.proofs.WeightLemmas.{weights-iff, weighted-flags}
use Rattle.ec_bounds.proofs.weight.weight_bound.Goals as goal

pub returns : goal.returns
returns c = λ rest.
    let held = c.args.loads.now in
    let w = c.args.weights.now in
    let h = length w in
    let hyper : h ≡ lcm_of (periods_of held.loads) = omega (arith, c.ticks.ensures.value) in
    let some : 0 < total_weight w h = omega (arith, c.total_weight-total.ensures.value) in
    let left : c.weighted_left.result ≡ weighted_demand held.loads held.places w h =
    c.weighted_left.ensures.value
    ∙ (λ i. weighted_left ((c.loads.ensures.value ∙ rest.loads) i) ((c.flags.ensures.value ∙ rest.unplaced) i) w h)
    ∙ weighted-flags held.loads held.places w h in
    weights-iff held.loads held.slots c.args.value held.places w h c.in-Some.value c.from.result c.from-2.result c.from-3.result c.from-4.result hyper refl some c.in-Some.is c.from.ensures
    (omega (arith, c.from-2.ensures, c.total_weight-total.ensures.value))
    (omega (arith, c.from-3.ensures, c.weighted_raw.ensures.value, left))
    (omega (arith, c.from-4.ensures, c.total_weight-total.ensures.value))
