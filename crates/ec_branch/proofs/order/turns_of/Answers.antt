use Rattle.std.proofs.Common.{◌≡◌, ◌+◌, refl, arith}
use Rattle.std.proofs.lemmas.List.Elements.{All-push}
use Rattle.ec_units.specs.Load.{loads_of, periods_of}
use Rattle.ec_hyper.specs.Lcm.{lcm_of}
use Rattle.ec_branch.specs.Weights.{weight}
use Rattle.ec_branch.proofs.OrderLemmas.{light_more}
use Rattle.ec_branch.proofs.TurnLemmas.{numbers_more}
use Rattle.ec_branch.proofs.order.turns_of.Goals as goal

pub loop-i-preserved : goal.loop-i-preserved
loop-i-preserved c =
    let us = c.as_slice-all.result.now in
    let inv = c.loop-i.invariant in
    let i = c.loop-i.i in
    let whole : c.hyper-hyper.result ≡ lcm_of (periods_of (loads_of us)) = rw c.as_slice-all.ensures c.hyper-hyper.ensures.value in
    record {
      units = numbers_more c.loop-i.turns.items c.push.new.self.items i _ c.in_ok-push.ensures.items refl inv.units;
      ranks =
          rw c.in_ok-push.ensures.items
          (All-push (λ t. t.rank + weight (loads_of us) t.unit ≡ 4294967295) c.loop-i.turns.items _ inv.ranks
          (light_more us c.hyper-hyper.result i c.weight_of.result c.index-all-i.result c.loop-i-test.true c.index-all-i.is whole c.weight_of.ensures.value (omega (arith, c.weight_of.ensures.bound))));
    }
