use Rattle.std.proofs.Common.{◌≡◌, ◌∙◌, ap, arith, take, rules}
use Rattle.ec_hyper.specs.Lcm.{lcm_of}
use Rattle.ec_loads.specs.Strong.{placed_periods}
use Rattle.ec_symmetry.proofs.LatestLemmas.{placed-range, placed-short}
use Rattle.ec_symmetry.proofs.strong.ticks_so_far.Goals as goal

pub of-requires : goal.of-requires
of-requires c =
    let held = c.args.loads.now in
    let ps = c.args.places.now in
    let is : take c.gather_periods-count.result c.gather_periods-count.new.periods ≡ placed_periods held.loads ps =
    c.gather_periods-count.ensures.periods ∙ (λ i. placed_periods (c.loads.ensures.value i) ps) in
    rw is (placed-range held.loads ps c.ticks-ticks.ensures.units)

pub unreachable-requires : goal.unreachable-requires
unreachable-requires c =
    let held = c.args.loads.now in
    let ps = c.args.places.now in
    let is : take c.gather_periods-count.result c.gather_periods-count.new.periods ≡ placed_periods held.loads ps =
    c.gather_periods-count.ensures.periods ∙ (λ i. placed_periods (c.loads.ensures.value i) ps) in
    let short = placed-short held.loads ps c.ticks-ticks.ensures.units in
    let same = ap lcm_of is in
    omega (arith, c.in-Err.ensures.short, same, short, c.ticks-ticks.ensures.value, c.ticks-ticks.ensures.range.1)

pub returns : goal.returns
returns c = search rules
