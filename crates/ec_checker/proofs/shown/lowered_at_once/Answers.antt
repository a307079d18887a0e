use Rattle.std.proofs.Common.{◌≡◌, ◌<◌, length, slice_get, Some, None, ap, sym, subst, ◌∙◌, arith, refl}
use Rattle.std.proofs.lemmas.Grind.{common_steps}
use Rattle.std.proofs.lemmas.Option.{slice_get_within}
use Rattle.ec_loads.specs.Held.{Held}
use Rattle.ec_symmetry.specs.Ruled.{line_rules}
use Rattle.ec_bounds.proofs.HeldLemmas.{with_place, restored, rest_follows, flags_count, still_within}
use Rattle.ec_checker.proofs.LevelLemmas.{follows_first, follows_skip, follows_open, follows_all}
use Rattle.ec_checker.proofs.shown.lowered_at_once.Goals.{then-is_open, else-is_open}
use Rattle.ec_checker.proofs.shown.lowered_at_once.Goals as goal

pub children_by-places-requires : goal.children_by-places-requires
children_by-places-requires c = slice_get_within c.args.loads.now.places c.args.unit None c.requires.free

pub loop-i-init : goal.loop-i-init
loop-i-init c =
    record {
      same = refl;
      left = c.requires.left;
      low = omega arith;
      follows = follows_first (line_rules c.args.rules) c.args.loads.now c.args.trees.now c.args.unit c.children_by-places.result c.args.level c.children_by-places.ensures;
    }

pub place-requires : goal.place-requires
place-requires c = subst (λ (w : Held). c.args.unit < length w.places) (sym c.loop-i.invariant.same) (slice_get_within c.args.loads.now.places c.args.unit None c.requires.free)

pub placed-requires : goal.placed-requires
placed-requires c =
    let within = subst (λ (w : Held). c.args.unit < length w.places) (sym c.loop-i.invariant.same) (slice_get_within c.args.loads.now.places c.args.unit None c.requires.free) in
    subst (λ w. c.args.unit < w) (sym (flags_count c.loop-i.loads c.loop-i.rest c.loop-i.invariant.left)) within

pub open_level-requires : goal.open_level-requires
open_level-requires c = rest_follows c.loop-i.loads c.place.new.self c.loop-i.rest c.placed.new.self c.args.unit (Some c.in-Some.place) c.loop-i.invariant.left c.place.ensures c.placed.ensures

pub remove-requires : goal.remove-requires
remove-requires c =
    let within = subst (λ (w : Held). c.args.unit < length w.places) (sym c.loop-i.invariant.same) (slice_get_within c.args.loads.now.places c.args.unit None c.requires.free) in
    still_within c.loop-i.loads c.place.new.self c.args.unit (Some c.in-Some.place) within c.place.ensures

pub unplaced-requires : goal.unplaced-requires
unplaced-requires c =
    let within = subst (λ (w : Held). c.args.unit < length w.places) (sym c.loop-i.invariant.same) (slice_get_within c.args.loads.now.places c.args.unit None c.requires.free) in
    let still = still_within c.loop-i.loads c.place.new.self c.args.unit (Some c.in-Some.place) within c.place.ensures in
    subst (λ w. c.args.unit < w) (sym (flags_count c.place.new.self c.placed.new.self (rest_follows c.loop-i.loads c.place.new.self c.loop-i.rest c.placed.new.self c.args.unit (Some c.in-Some.place) c.loop-i.invariant.left c.place.ensures c.placed.ensures))) still

pub loop-i-preserved : goal.loop-i-preserved
loop-i-preserved c =
    let rules = line_rules c.args.rules in
    let args = c.args.loads.now in
    let u = c.args.unit in
    let trees = c.args.trees.now in
    let i = c.loop-i.i in
    let p = c.in-Some.place in
    let at = c.loop-i.invariant.same in
    let within : i < length trees = omega (arith, c.loop-i-test.true) in
    elim c.if-is_open.branch [
      | then-is_open w ↦
          let made : w.place.new.self ≡ with_place args u (Some p) = w.place.ensures ∙ ap (λ (h : Held). with_place h u (Some p)) at in
          record {
            same =
                w.loads-is
                ∙ restored c.loop-i.loads w.place.new.self w.place.new.self w.remove.new.self u p w.place.ensures refl w.remove.ensures (ap (λ (h : Held). slice_get h.places u) at ∙ c.requires.free)
                ∙ at;
            left =
                rw (w.loads-is, w.rest-is)
                (rest_follows w.place.new.self w.remove.new.self w.placed.new.self w.unplaced.new.self u None
                (rest_follows c.loop-i.loads w.place.new.self c.loop-i.rest w.placed.new.self u (Some p) c.loop-i.invariant.left w.place.ensures w.placed.ensures) w.remove.ensures w.unplaced.ensures);
            low = let less = w.min-least.ensures in let is = w.least-is in let low = c.loop-i.invariant.low in grind (arith, common_steps);
            follows =
                rw w.least-is
                (follows_open rules args w.place.new.self trees u c.loop-i.places c.next.new.self p i c.args.level c.loop-i.least w.open_level.result _ c.index-trees-i.result
                within c.index-trees-i.is c.in-Some.ensures.steps made (c.is_open.ensures w.if-is_open.true) (w.open_level.ensures rules) w.min-least.ensures c.loop-i.invariant.follows);
          }
      | else-is_open w ↦
          record {
            same = w.loads-is ∙ at;
            left = rw (w.loads-is, w.rest-is) c.loop-i.invariant.left;
            low = rw w.least-is c.loop-i.invariant.low;
            follows = rw w.least-is (follows_skip rules args trees u c.loop-i.places c.next.new.self p i c.args.level c.loop-i.least c.index-trees-i.result within c.in-Some.ensures.steps c.loop-i.invariant.follows);
          }
    ]

pub returns-in_default-clause-most : goal.returns-in_default-clause-most
returns-in_default-clause-most c = follows_all (line_rules c.args.rules) c.args.loads.now c.args.trees.now c.args.unit c.loop-i.places c.loop-i.i c.args.level c.loop-i.least c.loop-i.invariant.follows

pub returns-clause-most : goal.returns-clause-most
returns-clause-most c = follows_all (line_rules c.args.rules) c.args.loads.now c.args.trees.now c.args.unit c.loop-i.places c.loop-i.i c.args.level c.loop-i.least c.loop-i.invariant.follows
