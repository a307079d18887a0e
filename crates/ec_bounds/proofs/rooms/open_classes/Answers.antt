use Rattle.std.proofs.Common.{length, ◌||◌, false, get_or, ap, ◌∙◌, arith}
use Rattle.std.proofs.lemmas.List.{get_or-replicate}
use Rattle.ec_loads.specs.Cost.{items}
use Rattle.ec_loads.specs.Rooms.{is_open}
use Rattle.ec_bounds.proofs.StepLemmas.{open_more, open_all}
use Rattle.ec_bounds.proofs.rooms.open_classes.Goals as goal

pub loop-i-init : goal.loop-i-init
loop-i-init c = λ f low. ap (λ w. w || is_open (items c.loads-all.result.now c.places-places.result.now) c.args.period f) (get_or-replicate 60 f false false low)

pub loop-i-preserved : goal.loop-i-preserved
loop-i-preserved c =
    λ f low.
    let all = c.loads-all.result.now in
    let places = c.places-places.result.now in
    let size = ap length c.loads-all.ensures.value in
    open_more all places c.args.period f c.loop-i.i _ _ (get_or c.loop-i.opens f false) (get_or c.open_at.new.opens f false) c.loop-i-test.true (omega (arith, size, c.places-places.ensures.each)) (c.open_at.ensures f low) (c.loop-i.invariant f low)

pub returns : goal.returns
returns c =
    λ f low.
    open_all c.loads-all.result.now c.places-places.result.now c.args.period f c.loop-i.i (get_or c.loop-i.opens f false) c.loop-i-test.false (c.loop-i.invariant f low)
    ∙ (λ i. is_open (items (c.loads-all.ensures.value i) (c.places-places.ensures.value i)) c.args.period f)
