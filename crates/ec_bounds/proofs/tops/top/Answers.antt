use Rattle.std.proofs.Common.{◌≡◌, ◌+◌, ◌%◌, max, ap, ◌∙◌, arith, mod-eq_of_lt}
use Rattle.std.proofs.Math.Nat.{add-mod_right}
use Rattle.ec_loads.specs.Cost.{items}
use Rattle.ec_loads.specs.Rooms.{top}
use Rattle.ec_bounds.proofs.StepLemmas.{top_first, top_next, top_met, top_stays, top_end}
use Rattle.ec_bounds.proofs.tops.top.Goals as goal

pub loop-tick-init : goal.loop-tick-init
loop-tick-init c =
    let held = c.args.loads.now in
    let xs = items held.loads held.places in
    let p = c.args.period in
    let f = c.args.phase in
    let h = c.ticks-ticks.result in
    record {
      turn = ap (λ w. w % p) c.from-tick.ensures ∙ mod-eq_of_lt c.requires;
      low = omega arith;
      each = top_first xs held.slots h p f c.from-tick.result c.requires c.from-tick.ensures;
      met = top_met xs held.slots h p f;
      bound = omega arith;
    }

pub loop-tick-preserved : goal.loop-tick-preserved
loop-tick-preserved c =
    let held = c.args.loads.now in
    let xs = items held.loads held.places in
    let p = c.args.period in
    let f = c.args.phase in
    let h = c.ticks-ticks.result in
    let k = c.loop-tick.tick in
    let inv = c.loop-tick.invariant in
    let raw = c.raw.ensures in
    let step = c.from-tick-in-loop-tick.ensures in
    let most : c.max-most.result ≡ max c.loop-tick.most c.raw.result = omega arith in
    record {
      turn = ap (λ w. (k + w) % p) step ∙ add-mod_right k p ∙ inv.turn;
      low = omega (arith, inv.low, most);
      each = top_next xs held.slots h p f k c.loop-tick.most c.raw.result c.from-tick-in-loop-tick.result c.max-most.result inv.turn raw.value step most inv.each;
      met = top_stays xs held.slots h p f k c.loop-tick.most c.raw.result c.max-most.result c.loop-tick-test.true inv.turn raw.value most inv.met;
      bound = omega (arith, inv.bound, raw.bound, most);
    }

pub returns-clause-value : goal.returns-clause-value
returns-clause-value c =
    let held = c.args.loads.now in
    let xs = items held.loads held.places in
    let inv = c.loop-tick.invariant in
    top_end xs held.slots c.ticks-ticks.result c.args.period c.args.phase c.loop-tick.tick c.loop-tick.most c.loop-tick-test.false inv.low inv.each inv.met
    ∙ ap (λ h. top xs held.slots h c.args.period c.args.phase) c.ticks-ticks.ensures.value
