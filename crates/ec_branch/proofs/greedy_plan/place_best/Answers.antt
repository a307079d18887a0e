use Rattle.std.proofs.Common.{◌<◌, length, None, Some, ap, sym, subst, ◌∙◌}
use Rattle.std.proofs.lemmas.Option.{slice_get_within}
use Rattle.ec_loads.specs.Held.{Held}
use Rattle.ec_bounds.proofs.HeldLemmas.{with_place}
use Rattle.ec_branch.proofs.GreedyLemmas.{placing_ready, placing_more, placing_stuck}
use Rattle.ec_branch.proofs.greedy_plan.place_best.Goals as goal

pub place-requires : goal.place-requires
place-requires c =
    let cur = c.loop-unit.loads in
    let u = c.from-unit.result in
    let ready = placing_ready c.args.loads.now cur c.args.order.now c.loop-unit.unit-index u _ c.loop-unit-test.true c.from-unit.ensures c.loop-unit.invariant in
    subst (λ (w : Held). u < length w.places) (sym c.best_child.ensures.same) (slice_get_within cur.places u None ready.0)

pub returns-in-None-clause-stuck : goal.returns-in-None-clause-stuck
returns-in-None-clause-stuck c =
    λ _. placing_stuck c.args.loads.now c.loop-unit.loads c.args.order.now c.loop-unit.unit-index c.from-unit.result _ c.loop-unit-test.true c.from-unit.ensures c.in-None.ensures.best c.loop-unit.invariant

pub loop-unit-preserved : goal.loop-unit-preserved
loop-unit-preserved c =
    let u = c.from-unit.result in
    let p = c.in-Some.place in
    placing_more c.args.loads.now c.loop-unit.loads c.place.new.self c.args.order.now c.loop-unit.unit-index u _ p c.loop-unit-test.true c.from-unit.ensures
    (c.place.ensures ∙ ap (λ (w : Held). with_place w u (Some p)) c.best_child.ensures.same) c.in-Some.ensures.best c.loop-unit.invariant
