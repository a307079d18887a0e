use Rattle.std.proofs.Common.{◌≡◌, ◌*◌, ◌≤◌, ◌<◌, Bool, cond, length, get_or, false, ap, arith, mul-le-mul}
use Rattle.std.proofs.lemmas.List.Elements.{All-get_or}
use Rattle.ec_units.specs.declared.unit.Load.{Load}
use Rattle.ec_loads.specs.Search.{nobody}
use Rattle.ec_loads.specs.Weights.{least_weight}
use Rattle.ec_bounds.proofs.WeightLemmas.{weighted_left-at, weight-of, none_known}
use Rattle.ec_bounds.proofs.weight.weighted_left.Goals as goal
use Rattle.ec_bounds.proofs.weight.weighted_left.Goals.{then-unplaced-i, else-unplaced-i}

pub loop-i-init : goal.loop-i-init
loop-i-init c =
    record {
      sum = omega arith;
      bound = omega arith;
      known = none_known c.args.weights.now 61;
    }

pub loop-i-preserved : goal.loop-i-preserved
loop-i-preserved c =
    let ls = c.args.loads.now in
    let bs = c.args.unplaced.now in
    let w = c.args.weights.now in
    let h = length w in
    let i = c.loop-i.i in
    let inv = c.loop-i.invariant in
    let within : i < length ls = omega arith in
    let bytes = (get_or ls i nobody).bytes * least_weight w h (get_or ls i nobody).period in
    let step = weighted_left-at ls bs w h i nobody false within (omega (arith, c.requires.each)) in
    elim c.if-unplaced-i.branch [
      | then-unplaced-i b ↦
          let on = ap (λ (f : Bool). cond f bytes 0) b.if-unplaced-i.true in
          let product : b.from.result * b.known_weight.result ≡ bytes = λ j. b.from.ensures j * weight-of w h _ (get_or ls i nobody).period b.known_weight.result b.known_weight.ensures.value (omega (arith, b.from-then-unplaced-i.ensures)) j in
          let is = All-get_or (λ (x : Load). (1 ≤ x.period) × (x.period ≤ 60) × (x.bytes ≤ 1486)) ls i nobody within c.requires.units in
          let small : b.from.result ≤ 1486 = omega (arith, b.from.ensures, is.2) in
          let most : b.from.result * b.known_weight.result ≤ 1486 * 67107840 = mul-le-mul small b.known_weight.ensures.bound in
          record {
            sum = omega (arith, inv.sum, step, on, product, b.total-is);
            bound = omega (arith, inv.bound, most, b.total-is);
            known = rw b.known-is b.known_weight.ensures.known;
          }
      | else-unplaced-i b ↦
          let off = ap (λ (f : Bool). cond f bytes 0) b.if-unplaced-i.false in
          record {
            sum = omega (arith, inv.sum, step, off, b.total-is);
            bound = omega (arith, inv.bound, b.total-is);
            known = rw b.known-is inv.known;
          }
    ]
