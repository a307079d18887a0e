use Rattle.std.proofs.Common.{◌≡◌, ◌<◌, All, ◌∷◌, length, slice_get, Some, None, ap, sym, subst, ◌∙◌, arith, inl, refl}
use Rattle.std.proofs.lemmas.Grind.{common_steps}
use Rattle.std.proofs.lemmas.List.Elements.{All-tail}
use Rattle.std.proofs.lemmas.Option.{slice_get_within}
use Rattle.ec_loads.specs.Held.{Held}
use Rattle.ec_bounds.proofs.HeldLemmas.{with_place, restored, rest_follows, flags_count, still_within}
use Rattle.ec_cert.specs.Shapes.{shape_of, shapes_of}
use Rattle.ec_cert.proofs.TreeLemmas.{shape_of-trees}
use Rattle.ec_symmetry.specs.Reached.{here, there}
use Rattle.ec_symmetry.specs.Ruled.{line_rules}
use Rattle.ec_checker.specs.Judged.{IsReady}
use Rattle.ec_checker.specs.Levels.{AreAtMost, AreIn}
use Rattle.ec_loads.specs.Line.{line_of}
use Rattle.ec_checker.proofs.BelowLemmas.{AreChildren, children-are, slots-set}
use Rattle.ec_checker.proofs.LevelLemmas.{kids_of, lowered_first, lowered_kept, lowered_pass, lowered_from, lowered_step, lowered_no_child, lowered_no_tree, lowered_split, lowered_open, shape_of-OpenLeaf}
use Rattle.ec_checker.proofs.WalkLemmas.{ready_at}
use Rattle.ec_checker.proofs.shown.+lowered.Goals.{then-not-is_passed, else-not-is_passed}
use Rattle.ec_checker.proofs.shown.+lowered.Goals as goal

pub loop-i-init : goal.loop-i-init
loop-i-init t c =
    let args = c.args.loads.now in
    let first = c.lowered_at_once-first in
    let kids = c.children_by-places.ensures ∙ ap (λ (w : Held). kids_of (line_rules c.args.rules) w c.from-unit.result) first.ensures.same in
    record {
      same = first.ensures.same;
      left = first.ensures.left;
      each = subst (AreChildren (line_of (line_rules c.args.rules) args) c.from-unit.result) (sym kids) (children-are (line_of (line_rules c.args.rules) args) args.places c.from-unit.result);
      lowers = λ least all. subst (λ w. lowered_from (line_rules c.args.rules) args c.as_ref-trees.result.now.items c.from-unit.result c.in-Some.later.now w first.result least) kids all;
    }

pub returns-in_default-clause-lowered : goal.returns-in_default-clause-lowered
returns-in_default-clause-lowered t c =
    let args = c.args.loads.now in
    let from = c.in-Some.ensures.cases.0 ∙ ap (λ w. w ∷ c.in-Some.later.now) (sym c.from-unit.ensures) in
    let first = c.lowered_at_once-first in
    let shape = shape_of-trees c.args.tree.now c.in-Split.trees c.as_ref-trees.result.now c.in-Split.is c.as_ref-trees.ensures in
    lowered_first (line_rules c.args.rules) args c.args.tree.now c.as_ref-trees.result.now c.args.order.now c.in-Some.later.now c.from-unit.result c.args.level first.result c.loop-i.least shape from first.ensures.low
    (subst (λ ts. AreAtMost (line_of (line_rules c.args.rules) args) (shapes_of ts) args.places c.from-unit.result c.args.level first.result) c.as_slice.ensures.value first.ensures.most)
    (lowered_split (line_rules c.args.rules) args c.args.tree.now c.as_ref-trees.result.now c.args.order.now c.in-Some.later.now c.from-unit.result first.result c.loop-i.least shape from
    (c.loop-i.invariant.lowers c.loop-i.least (lowered_no_child (line_rules c.args.rules) args _ c.from-unit.result c.in-Some.later.now c.loop-i.places c.loop-i.least c.in_default.ensures.steps.0)))

pub place-requires : goal.place-requires
place-requires t c =
    let args = c.args.loads.now in
    let u = c.from-unit.result in
    let ready = ready_at args.places c.args.order.now c.in-Some.later.now c.in-Some.unit.now u c.requires.ready c.in-Some.ensures.cases.0 c.from-unit.ensures in
    subst (λ (w : Held). u < length w.places) (sym c.loop-i.invariant.same) (slice_get_within args.places u None ready.0)

pub placed-requires : goal.placed-requires
placed-requires t c =
    let args = c.args.loads.now in
    let u = c.from-unit.result in
    let ready = ready_at args.places c.args.order.now c.in-Some.later.now c.in-Some.unit.now u c.requires.ready c.in-Some.ensures.cases.0 c.from-unit.ensures in
    let within = subst (λ (w : Held). u < length w.places) (sym c.loop-i.invariant.same) (slice_get_within args.places u None ready.0) in
    subst (λ w. u < w) (sym (flags_count c.loop-i.loads c.loop-i.rest c.loop-i.invariant.left)) within

pub lowered-least-requires : goal.lowered-least-requires
lowered-least-requires t c =
    let args = c.args.loads.now in
    let u = c.from-unit.result in
    let p = c.in-Some-next.place in
    let later = c.in-Some.later.now in
    let line = line_of (line_rules c.args.rules) args in
    let ready = ready_at args.places c.args.order.now later c.in-Some.unit.now u c.requires.ready c.in-Some.ensures.cases.0 c.from-unit.ensures in
    let each : AreChildren line u (p ∷ c.next.new.self) = subst (AreChildren line u) c.in-Some-next.ensures.steps c.loop-i.invariant.each in
    let made : c.place.new.self ≡ with_place args u (Some p) = c.place.ensures ∙ ap (λ (w : Held). with_place w u (Some p)) c.loop-i.invariant.same in
    let shorter : length c.args.order.now ≡ length (c.in-Some.unit.now ∷ later) = ap length c.in-Some.ensures.cases.0 in
    let units = All-tail (λ w. w < length args.loads) c.in-Some.unit.now later (subst (All (λ w. w < length args.loads)) c.in-Some.ensures.cases.0 c.requires.units) in (
      omega (arith, shorter),
      (
        subst (λ (w : Held). IsReady w.places later) (sym made) (ready.1 p),
        (
          rest_follows c.loop-i.loads c.place.new.self c.loop-i.rest c.placed.new.self u (Some p) c.loop-i.invariant.left c.place.ensures c.placed.ensures,
          (
            subst (λ (w : Held). AreIn w.slots w.loads w.places) (sym made) (slots-set args.slots args.loads args.places u p ready.0 (each p here).1 c.requires.slots),
            subst (λ (w : Held). All (λ v. v < length w.loads) later) (sym made) units,
          ),
        ),
      ),
    )

pub remove-requires : goal.remove-requires
remove-requires t c =
    let args = c.args.loads.now in
    let u = c.from-unit.result in
    let ready = ready_at args.places c.args.order.now c.in-Some.later.now c.in-Some.unit.now u c.requires.ready c.in-Some.ensures.cases.0 c.from-unit.ensures in
    let within = subst (λ (w : Held). u < length w.places) (sym c.loop-i.invariant.same) (slice_get_within args.places u None ready.0) in
    still_within c.loop-i.loads c.lowered-least.new.loads u (Some c.in-Some-next.place) within (c.lowered-least.ensures.same ∙ c.place.ensures)

pub unplaced-requires : goal.unplaced-requires
unplaced-requires t c =
    let args = c.args.loads.now in
    let u = c.from-unit.result in
    let ready = ready_at args.places c.args.order.now c.in-Some.later.now c.in-Some.unit.now u c.requires.ready c.in-Some.ensures.cases.0 c.from-unit.ensures in
    let within = subst (λ (w : Held). u < length w.places) (sym c.loop-i.invariant.same) (slice_get_within args.places u None ready.0) in
    let still = still_within c.loop-i.loads c.lowered-least.new.loads u (Some c.in-Some-next.place) within (c.lowered-least.ensures.same ∙ c.place.ensures) in
    subst (λ w. u < w) (sym (flags_count c.lowered-least.new.loads c.lowered-least.new.rest c.lowered-least.ensures.left)) still

pub returns-after-loop-i-clause-lowered : goal.returns-after-loop-i-clause-lowered
returns-after-loop-i-clause-lowered t c =
    let args = c.args.loads.now in
    let from = c.in-Some.ensures.cases.0 ∙ ap (λ w. w ∷ c.in-Some.later.now) (sym c.from-unit.ensures) in
    let first = c.lowered_at_once-first in
    let shape = shape_of-trees c.args.tree.now c.in-Split.trees c.as_ref-trees.result.now c.in-Split.is c.as_ref-trees.ensures in
    lowered_first (line_rules c.args.rules) args c.args.tree.now c.as_ref-trees.result.now c.args.order.now c.in-Some.later.now c.from-unit.result c.args.level first.result c.loop-i.least shape from first.ensures.low
    (subst (λ ts. AreAtMost (line_of (line_rules c.args.rules) args) (shapes_of ts) args.places c.from-unit.result c.args.level first.result) c.as_slice.ensures.value first.ensures.most)
    (lowered_split (line_rules c.args.rules) args c.args.tree.now c.as_ref-trees.result.now c.args.order.now c.in-Some.later.now c.from-unit.result first.result c.loop-i.least shape from
    (c.loop-i.invariant.lowers c.loop-i.least (lowered_no_tree (line_rules c.args.rules) args c.as_ref-trees.result.now.items c.from-unit.result c.in-Some.later.now c.loop-i.places c.loop-i.i c.loop-i.least (omega (arith, c.loop-i-test.false, c.len-i-end.ensures)))))

pub returns-in-OpenLeaf-clause-lowered : goal.returns-in-OpenLeaf-clause-lowered
returns-in-OpenLeaf-clause-lowered t c =
    lowered_open (line_rules c.args.rules) c.args.loads.now c.args.tree.now c.args.order.now c.args.level c.open_level.result _ (ap shape_of c.in-OpenLeaf.is ∙ shape_of-OpenLeaf) (c.open_level.ensures (line_rules c.args.rules)) (grind (arith, common_steps))

pub children_by-places-requires : goal.children_by-places-requires
children_by-places-requires t c =
    let args = c.args.loads.now in
    let u = c.from-unit.result in
    let ready = ready_at args.places c.args.order.now c.in-Some.later.now c.in-Some.unit.now u c.requires.ready c.in-Some.ensures.cases.0 c.from-unit.ensures in
    subst (λ (w : Held). u < length w.places) (sym c.lowered_at_once-first.ensures.same) (slice_get_within args.places u None ready.0)

pub lowered_at_once-first-requires : goal.lowered_at_once-first-requires
lowered_at_once-first-requires t c =
    let args = c.args.loads.now in
    let ready = ready_at args.places c.args.order.now c.in-Some.later.now c.in-Some.unit.now c.from-unit.result c.requires.ready c.in-Some.ensures.cases.0 c.from-unit.ensures in
    record { free = ready.0; left = c.requires.left }

pub returns-then-level-here-clause-lowered : goal.returns-then-level-here-clause-lowered
returns-then-level-here-clause-lowered t c =
    lowered_kept (line_rules c.args.rules) c.args.loads.now (shape_of c.args.tree.now) c.args.order.now c.args.level c.open_level-here.result c.ticks-ticks.ensures.units c.requires.ready c.requires.slots c.requires.units
    (c.open_level-here.ensures (line_rules c.args.rules)) (inl c.if-level-here.true)

pub returns-then-is_kept-clause-lowered : goal.returns-then-is_kept-clause-lowered
returns-then-is_kept-clause-lowered t c =
    let args = c.args.loads.now in
    let from = c.in-Some.ensures.cases.0 ∙ ap (λ w. w ∷ c.in-Some.later.now) (sym c.from-unit.ensures) in
    let first = c.lowered_at_once-first in
    let shape = shape_of-trees c.args.tree.now c.in-Split.trees c.as_ref-trees.result.now c.in-Split.is c.as_ref-trees.ensures in
    lowered_first (line_rules c.args.rules) args c.args.tree.now c.as_ref-trees.result.now c.args.order.now c.in-Some.later.now c.from-unit.result c.args.level first.result first.result shape from first.ensures.low
    (subst (λ ts. AreAtMost (line_of (line_rules c.args.rules) args) (shapes_of ts) args.places c.from-unit.result c.args.level first.result) c.as_slice.ensures.value first.ensures.most)
    (lowered_kept (line_rules c.args.rules) args (shape_of c.args.tree.now) c.args.order.now first.result c.open_level-here.result c.ticks-ticks.ensures.units c.requires.ready c.requires.slots c.requires.units
    (c.open_level-here.ensures (line_rules c.args.rules)) (c.is_kept.ensures c.if-is_kept.true))

pub loop-i-preserved : goal.loop-i-preserved
loop-i-preserved t c =
    let args = c.args.loads.now in
    let u = c.from-unit.result in
    let later = c.in-Some.later.now in
    let trees = c.as_ref-trees.result.now.items in
    let i = c.loop-i.i in
    let p = c.in-Some-next.place in
    let at = c.loop-i.invariant.same in
    let within : i < length trees = omega (arith, c.loop-i-test.true, c.len-i-end.ensures) in
    let line = line_of (line_rules c.args.rules) args in
    let from : c.args.order.now ≡ u ∷ later = c.in-Some.ensures.cases.0 ∙ ap (λ w. w ∷ later) (sym c.from-unit.ensures) in
    let ready = ready_at args.places c.args.order.now later c.in-Some.unit.now u c.requires.ready c.in-Some.ensures.cases.0 c.from-unit.ensures in
    let each : AreChildren line u (p ∷ c.next.new.self) = subst (AreChildren line u) c.in-Some-next.ensures.steps c.loop-i.invariant.each in
    elim c.if-not-is_passed.branch [
      | then-not-is_passed w ↦
          let made : w.place.new.self ≡ with_place args u (Some p) = w.place.ensures ∙ ap (λ (w : Held). with_place w u (Some p)) at in
          record {
            same =
                w.loads-is
                ∙ restored c.loop-i.loads w.place.new.self w.lowered-least.new.loads w.remove.new.self u p
                w.place.ensures w.lowered-least.ensures.same w.remove.ensures (ap (λ (h : Held). slice_get h.places u) at ∙ ready.0)
                ∙ at;
            left =
                rw (w.loads-is, w.rest-is)
                (rest_follows w.lowered-least.new.loads w.remove.new.self w.lowered-least.new.rest w.unplaced.new.self u None w.lowered-least.ensures.left w.remove.ensures w.unplaced.ensures);
            each = λ q m. each q (there m);
            lowers =
                λ least all. c.loop-i.invariant.lowers least
                (lowered_step (line_rules c.args.rules) args w.place.new.self trees u later c.loop-i.places c.next.new.self p i c.loop-i.least c.loop-i.least w.lowered-least.result least w.index-then-not-is_passed.result.now
                within w.index-then-not-is_passed.ensures c.in-Some-next.ensures.steps made refl w.lowered-least.ensures.lowered (rw (sym w.least-is) all));
          }
      | else-not-is_passed w ↦
          record {
            same = w.loads-is ∙ at;
            left = rw (w.loads-is, w.rest-is) c.loop-i.invariant.left;
            each = λ q m. each q (there m);
            lowers =
                λ least all. c.loop-i.invariant.lowers least
                (lowered_pass (line_rules c.args.rules) args trees u later c.loop-i.places c.next.new.self p i c.loop-i.least c.open_level-here.result least c.index.result.now
                within c.index.ensures c.in-Some-next.ensures.steps c.ticks-ticks.ensures.units (subst (IsReady args.places) from c.requires.ready) c.requires.slots (subst (All (λ w. w < length args.loads)) from c.requires.units)
                (each p here).0 (each p here).1 (c.open_level-here.ensures (line_rules c.args.rules)) (c.is_passed.ensures w.if-not-is_passed.false) (rw (sym w.least-is) all));
          }
    ]
