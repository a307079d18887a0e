use Rattle.std.proofs.Common.{◌≡◌, ℕ, ◌+◌, ◌<◌, ◌∷◌, length, drop, slice_get, Some, None, Result, Err, ap, sym, subst, ◌∙◌, arith, rules}
use Rattle.std.proofs.lemmas.Result.{err_from_is_err_and}
use Rattle.std.proofs.lemmas.Option.{slice_get_within}
use Rattle.ec_loads.specs.Held.{Held}
use Rattle.ec_symmetry.specs.Ruled.{line_rules}
use Rattle.ec_checker.specs.declared.fault.CheckFault.{CheckFault}
use Rattle.ec_checker.specs.declared.fault.CheckFault.TheVariants as fault
use Rattle.ec_checker.specs.Judged.{IsReady, then_judged}
use Rattle.ec_bounds.proofs.HeldLemmas.{with_place, restored, rest_follows, flags_count, still_within}
use Rattle.ec_cert.proofs.TreeLemmas.{shape_of-trees}
use Rattle.ec_checker.proofs.WalkLemmas.{judged_from, kids, child_step, no_more_trees, no_more_children, split_is, split_wrong, ready_at, weights_judged, open_judged, merge_judged, count_judged, groups_judged}
use Rattle.ec_checker.proofs.walk.+walk.Goals as goal

pub returns-then-len-clause-judged : goal.returns-then-len-clause-judged
returns-then-len-clause-judged t c =
    let rules = line_rules c.args.rules in
    let args = c.args.loads.now in
    let u = c.from-unit.result in
    let from = c.in-Some.ensures.cases.0 ∙ ap (λ w. w ∷ c.in-Some.later.now) (sym c.from-unit.ensures) in
    let places : length c.children_by-places.result ≡ length (kids rules args u) = ap length c.children_by-places.ensures in
    let want : c.len-then-len.result ≡ length (kids rules args u) = c.len-then-len.ensures.value ∙ places in
    let got : c.len-then-len-2.result ≡ length c.as_ref-trees.result.now.items = omega (arith, c.len-then-len-2.ensures) in
    let here : c.len.result ≡ length c.as_ref-trees.result.now.items = omega (arith, c.len.ensures) in
    let other : length c.as_ref-trees.result.now.items ≡ length (kids rules args u) → ⊥ =
    λ e. c.if-len.true (here ∙ e ∙ sym places ∙ sym c.len-in-Some.ensures.value) in
    (λ j. Err (fault.Children c.args.number (want j) (got j)))
    ∙ sym (split_wrong rules args c.args.value c.args.level c.args.tree.now c.as_ref-trees.result.now c.args.order.now c.in-Some.later.now u c.args.number (shape_of-trees c.args.tree.now c.in-Split.trees c.as_ref-trees.result.now c.in-Split.is c.as_ref-trees.ensures) from other)

pub returns-in_default-clause-judged : goal.returns-in_default-clause-judged
returns-in_default-clause-judged t c =
    let rules = line_rules c.args.rules in
    let args = c.args.loads.now in
    let u = c.from-unit.result in
    let from = c.in-Some.ensures.cases.0 ∙ ap (λ w. w ∷ c.in-Some.later.now) (sym c.from-unit.ensures) in
    let places : length c.children_by-places.result ≡ length (kids rules args u) = ap length c.children_by-places.ensures in
    let count : length c.as_ref-trees.result.now.items ≡ length (kids rules args u) = omega (arith, c.if-len.false, c.len.ensures, c.len-in-Some.ensures.value, places) in
    sym (no_more_children rules args c.args.value c.args.level (drop c.loop-i.i c.as_ref-trees.result.now.items) u c.in-Some.later.now c.loop-i.places c.loop-i.at c.in_default.ensures.steps.0)
    ∙ c.loop-i.invariant.judged
    ∙ sym (split_is rules args c.args.value c.args.level c.args.tree.now c.as_ref-trees.result.now c.args.order.now c.in-Some.later.now u c.args.number (shape_of-trees c.args.tree.now c.in-Split.trees c.as_ref-trees.result.now c.in-Split.is c.as_ref-trees.ensures) from count)

pub place-requires : goal.place-requires
place-requires t c =
    let args = c.args.loads.now in
    let u = c.from-unit.result in
    let ready = ready_at args.places c.args.order.now c.in-Some.later.now c.in-Some.unit.now u c.requires.ready c.in-Some.ensures.cases.0 c.from-unit.ensures in
    subst (λ (w : Held). u < length w.places) (sym c.loop-i.invariant.same) (slice_get_within args.places u None ready.0)

pub placed-requires : goal.placed-requires
placed-requires t c =
    let args = c.args.loads.now in
    let u = c.from-unit.result in
    let ready = ready_at args.places c.args.order.now c.in-Some.later.now c.in-Some.unit.now u c.requires.ready c.in-Some.ensures.cases.0 c.from-unit.ensures in
    let within = subst (λ (w : Held). u < length w.places) (sym c.loop-i.invariant.same) (slice_get_within args.places u None ready.0) in
    subst (λ w. u < w) (sym (flags_count c.loop-i.loads c.loop-i.rest c.loop-i.invariant.left)) within

pub walk-child-requires : goal.walk-child-requires
walk-child-requires t c =
    let args = c.args.loads.now in
    let u = c.from-unit.result in
    let p = c.in-Some-next.place in
    let ready = ready_at args.places c.args.order.now c.in-Some.later.now c.in-Some.unit.now u c.requires.ready c.in-Some.ensures.cases.0 c.from-unit.ensures in
    let made : c.place.new.self ≡ with_place args u (Some p) = c.place.ensures ∙ ap (λ (w : Held). with_place w u (Some p)) c.loop-i.invariant.same in
    let shorter : length c.args.order.now ≡ length (c.in-Some.unit.now ∷ c.in-Some.later.now) = ap length c.in-Some.ensures.cases.0 in
    (omega (arith, shorter), (subst (λ (w : Held). IsReady w.places c.in-Some.later.now) (sym made) (ready.1 p), rest_follows c.loop-i.loads c.place.new.self c.loop-i.rest c.placed.new.self u (Some p) c.loop-i.invariant.left c.place.ensures c.placed.ensures))

pub remove-requires : goal.remove-requires
remove-requires t c =
    let args = c.args.loads.now in
    let u = c.from-unit.result in
    let ready = ready_at args.places c.args.order.now c.in-Some.later.now c.in-Some.unit.now u c.requires.ready c.in-Some.ensures.cases.0 c.from-unit.ensures in
    let within = subst (λ (w : Held). u < length w.places) (sym c.loop-i.invariant.same) (slice_get_within args.places u None ready.0) in
    still_within c.loop-i.loads c.walk-child.new.loads u (Some c.in-Some-next.place) within (c.walk-child.ensures.same ∙ c.place.ensures)

pub unplaced-requires : goal.unplaced-requires
unplaced-requires t c =
    let args = c.args.loads.now in
    let u = c.from-unit.result in
    let ready = ready_at args.places c.args.order.now c.in-Some.later.now c.in-Some.unit.now u c.requires.ready c.in-Some.ensures.cases.0 c.from-unit.ensures in
    let within = subst (λ (w : Held). u < length w.places) (sym c.loop-i.invariant.same) (slice_get_within args.places u None ready.0) in
    let still = still_within c.loop-i.loads c.walk-child.new.loads u (Some c.in-Some-next.place) within (c.walk-child.ensures.same ∙ c.place.ensures) in
    subst (λ w. u < w) (sym (flags_count c.walk-child.new.loads c.walk-child.new.rest c.walk-child.ensures.left)) still

pub returns-in_err-at-in-Some-clause-same : goal.returns-in_err-at-in-Some-clause-same
returns-in_err-at-in-Some-clause-same t c =
    let args = c.args.loads.now in
    let u = c.from-unit.result in
    let ready = ready_at args.places c.args.order.now c.in-Some.later.now c.in-Some.unit.now u c.requires.ready c.in-Some.ensures.cases.0 c.from-unit.ensures in
    let at = c.loop-i.invariant.same in
    restored c.loop-i.loads c.place.new.self c.walk-child.new.loads c.remove.new.self u c.in-Some-next.place
    c.place.ensures c.walk-child.ensures.same c.remove.ensures (ap (λ (h : Held). slice_get h.places u) at ∙ ready.0)
    ∙ at

pub returns-in_err-at-in-Some-clause-left : goal.returns-in_err-at-in-Some-clause-left
returns-in_err-at-in-Some-clause-left t c =
    rest_follows c.walk-child.new.loads c.remove.new.self c.walk-child.new.rest c.unplaced.new.self c.from-unit.result None c.walk-child.ensures.left c.remove.ensures c.unplaced.ensures

pub returns-in_err-at-in-Some-clause-judged : goal.returns-in_err-at-in-Some-clause-judged
returns-in_err-at-in-Some-clause-judged t c =
    let rules = line_rules c.args.rules in
    let args = c.args.loads.now in
    let v = c.args.value in
    let u = c.from-unit.result in
    let later = c.in-Some.later.now in
    let trees = c.as_ref-trees.result.now.items in
    let i = c.loop-i.i in
    let e = c.in_err-at-in-Some.field-0.0 in
    let from = c.in-Some.ensures.cases.0 ∙ ap (λ w. w ∷ later) (sym c.from-unit.ensures) in
    let places : length c.children_by-places.result ≡ length (kids rules args u) = ap length c.children_by-places.ensures in
    let count : length trees ≡ length (kids rules args u) = omega (arith, c.if-len.false, c.len.ensures, c.len-in-Some.ensures.value, places) in
    let made : c.place.new.self ≡ with_place args u (Some c.in-Some-next.place) = c.place.ensures ∙ ap (λ (w : Held). with_place w u (Some c.in-Some-next.place)) c.loop-i.invariant.same in
    let rest : ℕ → Result ℕ CheckFault = λ j. judged_from rules args v c.args.level (drop (i + 1) trees) u later c.next.new.self j in
    let whole =
    split_is rules args v c.args.level c.args.tree.now c.as_ref-trees.result.now c.args.order.now later u c.args.number (shape_of-trees c.args.tree.now c.in-Split.trees c.as_ref-trees.result.now c.in-Split.is c.as_ref-trees.ensures) from count
    ∙ sym c.loop-i.invariant.judged
    ∙ child_step rules args c.place.new.self v c.args.level trees u later c.loop-i.places c.next.new.self c.in-Some-next.place i c.loop-i.at c.index.result.now c.walk-child.result
    (omega (arith, c.loop-i-test.true, c.len-i-end.ensures)) c.index.ensures c.in-Some-next.ensures.steps made c.walk-child.ensures.judged
    ∙ ap (λ w. then_judged w rest) c.in_err-at-in-Some.was in
    let p = err_from_is_err_and c.from_residual.result c.from_residual.ensures.1 in
    rw (p.1, p.2) (sym whole)

pub loop-i-preserved : goal.loop-i-preserved
loop-i-preserved t c =
    let rules = line_rules c.args.rules in
    let args = c.args.loads.now in
    let v = c.args.value in
    let u = c.from-unit.result in
    let later = c.in-Some.later.now in
    let trees = c.as_ref-trees.result.now.items in
    let i = c.loop-i.i in
    let at = c.loop-i.invariant.same in
    let ready = ready_at args.places c.args.order.now later c.in-Some.unit.now u c.requires.ready c.in-Some.ensures.cases.0 c.from-unit.ensures in
    let made : c.place.new.self ≡ with_place args u (Some c.in-Some-next.place) = c.place.ensures ∙ ap (λ (w : Held). with_place w u (Some c.in-Some-next.place)) at in
    let rest : ℕ → Result ℕ CheckFault = λ j. judged_from rules args v c.args.level (drop (i + 1) trees) u later c.next.new.self j in
    record {
      same =
          restored c.loop-i.loads c.place.new.self c.walk-child.new.loads c.remove.new.self u c.in-Some-next.place
          c.place.ensures c.walk-child.ensures.same c.remove.ensures (ap (λ (h : Held). slice_get h.places u) at ∙ ready.0)
          ∙ at;
      left = rest_follows c.walk-child.new.loads c.remove.new.self c.walk-child.new.rest c.unplaced.new.self u None c.walk-child.ensures.left c.remove.ensures c.unplaced.ensures;
      judged =
          sym (child_step rules args c.place.new.self v c.args.level trees u later c.loop-i.places c.next.new.self c.in-Some-next.place i c.loop-i.at c.index.result.now c.walk-child.result
          (omega (arith, c.loop-i-test.true, c.len-i-end.ensures)) c.index.ensures c.in-Some-next.ensures.steps made c.walk-child.ensures.judged
          ∙ ap (λ w. then_judged w rest) c.in_ok-at-in-Some.was)
          ∙ c.loop-i.invariant.judged;
    }

pub returns-after-loop-i-clause-judged : goal.returns-after-loop-i-clause-judged
returns-after-loop-i-clause-judged t c =
    let rules = line_rules c.args.rules in
    let args = c.args.loads.now in
    let u = c.from-unit.result in
    let trees = c.as_ref-trees.result.now.items in
    let from = c.in-Some.ensures.cases.0 ∙ ap (λ w. w ∷ c.in-Some.later.now) (sym c.from-unit.ensures) in
    let places : length c.children_by-places.result ≡ length (kids rules args u) = ap length c.children_by-places.ensures in
    let count : length trees ≡ length (kids rules args u) = omega (arith, c.if-len.false, c.len.ensures, c.len-in-Some.ensures.value, places) in
    sym (no_more_trees rules args c.args.value c.args.level trees u c.in-Some.later.now c.loop-i.places c.loop-i.i c.loop-i.at (omega (arith, c.loop-i-test.false, c.len-i-end.ensures)))
    ∙ c.loop-i.invariant.judged
    ∙ sym (split_is rules args c.args.value c.args.level c.args.tree.now c.as_ref-trees.result.now c.args.order.now c.in-Some.later.now u c.args.number (shape_of-trees c.args.tree.now c.in-Split.trees c.as_ref-trees.result.now c.in-Split.is c.as_ref-trees.ensures) from count)

pub returns-in-Weights-clause-judged : goal.returns-in-Weights-clause-judged
returns-in-Weights-clause-judged t c =
    c.judged-in-Weights.ensures
    ∙ weights_judged (line_rules c.args.rules) c.args.loads.now c.args.value c.args.level c.args.tree.now c.args.order.now c.args.number _ c.as_slice.result.now _ c.in-Weights.is c.as_slice.ensures (search rules)

pub returns-in-OpenLeaf-clause-judged : goal.returns-in-OpenLeaf-clause-judged
returns-in-OpenLeaf-clause-judged t c =
    let rules_now = line_rules c.args.rules in
    let told = c.level_holds.ensures rules_now in
    c.judged-in-OpenLeaf.ensures
    ∙ open_judged rules_now c.args.loads.now c.args.value c.args.level c.args.tree.now c.args.order.now c.args.number _ c.in-OpenLeaf.is (search (rules, told))

pub returns-in-Merge-clause-judged : goal.returns-in-Merge-clause-judged
returns-in-Merge-clause-judged t c =
    c.judged-in-Merge.ensures
    ∙ merge_judged (line_rules c.args.rules) c.args.loads.now c.args.value c.args.level c.args.tree.now c.args.order.now c.args.number _ c.in-Merge.is c.merge_holds.ensures

pub returns-in-Count-clause-judged : goal.returns-in-Count-clause-judged
returns-in-Count-clause-judged t c =
    c.judged-in-Count.ensures
    ∙ count_judged (line_rules c.args.rules) c.args.loads.now c.args.value c.args.level c.args.tree.now c.args.order.now c.args.number _ _ _ c.in-Count.is c.count_holds.ensures

pub returns-in-Groups-clause-judged : goal.returns-in-Groups-clause-judged
returns-in-Groups-clause-judged t c =
    c.judged-in-Groups.ensures
    ∙ groups_judged (line_rules c.args.rules) c.args.loads.now c.args.value c.args.level c.args.tree.now c.args.order.now c.args.number _ c.as_slice-in-Groups.result.now _ c.in-Groups.is c.as_slice-in-Groups.ensures c.groups_hold.ensures
