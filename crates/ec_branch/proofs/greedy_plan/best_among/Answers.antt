use Rattle.std.proofs.Common.{◌++◌, [], ◌∷◌, slice_get, ap, ◌∙◌, refl}
use Rattle.ec_loads.specs.Held.{Held}
use Rattle.ec_bounds.proofs.HeldLemmas.{restored}
use Rattle.ec_branch.proofs.WalkLemmas.{kids_more}
use Rattle.ec_branch.proofs.GreedyLemmas.{tried}
use Rattle.ec_branch.proofs.greedy_plan.best_among.Goals as goal

pub loop-place-preserved : goal.loop-place-preserved
loop-place-preserved c =
    let h = c.args.loads.now in
    let u = c.args.unit in
    let p = c.in-Some.place in
    let at = c.loop-place.invariant.same in
    let so_far = c.loop-place.invariant.best in
    let chosen = c.better-best.ensures in
    record {
      same = restored c.loop-place.loads c.place.new.self c.place.new.self c.remove.new.self u p c.place.ensures refl c.remove.ensures (ap (λ (w : Held). slice_get w.places u) at ∙ c.requires) ∙ at;
      best = (
        so_far.0 ++ p ∷ [],
        kids_more so_far.0 c.next.new.self c.loop-place.left c.args.places p c.in-Some.ensures.steps so_far.1,
        tried h c.loop-place.loads c.place.new.self u so_far.0 p c.loop-place.best c.fitting_cost.result c.better-best.result at c.place.ensures c.fitting_cost.ensures
            (record { full = chosen.full; first = chosen.first; less = chosen.less; kept = chosen.kept }) so_far.2,
      );
    }
