use Rattle.std.proofs.Common.{length, ap, sym, ◌∙◌, arith}
use Rattle.ec_loads.specs.Cost.{items}
use Rattle.ec_loads.specs.Rooms.{is_open}
use Rattle.ec_bounds.proofs.StepLemmas.{open_found, open_next, open_none}
use Rattle.ec_bounds.proofs.rooms.is_open.Goals as goal

pub loop-i-preserved : goal.loop-i-preserved
loop-i-preserved c =
    let all = c.loads-all.result.now in
    let places = c.places-places.result.now in
    let size = ap length c.loads-all.ensures.value in
    open_next all places c.args.period c.args.phase c.loop-i.i _ _ c.loop-i-test.true (omega (arith, size, c.places-places.ensures.each)) (sym c.is_placed_in.ensures ∙ c.if-is_placed_in.false) c.loop-i.invariant

pub returns-then-is_placed_in : goal.returns-then-is_placed_in
returns-then-is_placed_in c =
    let all = c.loads-all.result.now in
    let places = c.places-places.result.now in
    let size = ap length c.loads-all.ensures.value in
    open_found all places c.args.period c.args.phase c.loop-i.i _ _ c.loop-i-test.true (omega (arith, size, c.places-places.ensures.each)) (sym c.is_placed_in.ensures ∙ c.if-is_placed_in.true) c.loop-i.invariant
    ∙ (λ i. is_open (items (c.loads-all.ensures.value i) (c.places-places.ensures.value i)) c.args.period c.args.phase)

pub returns : goal.returns
returns c =
    open_none c.loads-all.result.now c.places-places.result.now c.args.period c.args.phase c.loop-i.i c.loop-i-test.false c.loop-i.invariant
    ∙ (λ i. is_open (items (c.loads-all.ensures.value i) (c.places-places.ensures.value i)) c.args.period c.args.phase)
