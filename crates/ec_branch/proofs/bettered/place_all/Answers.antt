use Rattle.std.proofs.Common.{ap, ◌∙◌}
use Rattle.ec_loads.specs.Held.{Held}
use Rattle.ec_branch.proofs.FirstLemmas.{placed_more}
use Rattle.ec_branch.proofs.bettered.place_all.Goals as goal

pub loop-i-preserved : goal.loop-i-preserved
loop-i-preserved c =
    let inv = c.loop-i.invariant in
    let made = c.place.ensures in
    record {
      loads = ap (λ (w : Held). w.loads) made ∙ inv.loads;
      slots = ap (λ (w : Held). w.slots) made ∙ inv.slots;
      placed = placed_more c.args.loads.now c.loop-i.loads c.place.new.self c.args.places.now c.loop-i.i _ c.narrow.result made inv.loads inv.slots c.loop-i-test.true c.requires.ranges c.narrow.ensures.phase c.narrow.ensures.slot inv.placed;
    }
