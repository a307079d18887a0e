use Rattle.std.proofs.Common.{rules, ◌≡◌, length, refl, sym, subst, ◌∙◌}
use Rattle.std.proofs.lemmas.List.{length-map}
use Rattle.std.proofs.lemmas.Result.{err_from_is_err_and}
use Rattle.ec_units.specs.Load.{load_of, loads_of}
use Rattle.ec_loads.specs.Held.{Held}
use Rattle.ec_cert.specs.Shapes.{cert_view}
use Rattle.ec_symmetry.specs.Orders.{IsOrder}
use Rattle.ec_symmetry.specs.Ruled.{line_rules}
use Rattle.ec_cert.specs.IsBestPlan.{value_of}
use Rattle.ec_checker.specs.Certified.{HasHead, IsCertified, IsLevelIn, IsLevelFault}
use Rattle.ec_checker.specs.Judged.{IsReady}
use Rattle.ec_checker.specs.declared.fault.CheckFault.TheVariants.{OutOfMemory}
use Rattle.ec_bounds.proofs.HeldLemmas.{empty_rest}
use Rattle.ec_checker.proofs.HeadLemmas.{order_ready}
use Rattle.ec_checker.proofs.CheckLemmas.{tree_from, fault_from, level_fault, level_memory, claim_from, found_is, tree_memory}
use Rattle.ec_checker.proofs.checking.check_in.Goals as goal

pub walk-requires-clause-ready : goal.walk-requires-clause-ready
walk-requires-clause-ready c =
    let us = c.args.units.now.units in
    let order : IsOrder (length us) c.as_slice-order.result.now = subst (λ w. IsOrder (length w) c.as_slice-order.result.now) c.as_slice.ensures (c.if-not-is_order.ensures.0 refl) in
    subst (λ (h : Held). IsReady h.places c.as_slice-order.result.now) (sym c.requires)
    (order_ready (loads_of us) (length us) c.as_slice-order.result.now (sym (length-map us load_of)) order)

pub walk-requires-clause-left : goal.walk-requires-clause-left
walk-requires-clause-left c = empty_rest (loads_of c.args.units.now.units) c.args.units.now.slots c.args.loads.now c.all-rest.result c.requires c.all-rest.ensures

pub returns-in_err-level_within-clause-exact : goal.returns-in_err-level_within-clause-exact
returns-in_err-level_within-clause-exact c =
    let us = c.args.units.now.units in
    let n = c.args.units.now.slots in
    let v = cert_view c.args.cert.now in
    let order : IsOrder (length us) v.order = subst (λ w. IsOrder (length w) v.order) c.as_slice.ensures (subst (IsOrder (length c.as_slice.result.now)) c.as_slice-order.ensures (c.if-not-is_order.ensures.0 refl)) in
    let p = err_from_is_err_and c.from_residual-in_err-level_within.result c.from_residual-in_err-level_within.ensures.1 in
    let fault = subst (λ w. IsLevelFault v.level w c.in_err-level_within.field-0.0) c.in_ok-value.ensures.ok.0 c.in_err-level_within.ensures.fault in
    rw (p.1, p.2) (level_fault us n v c.in_err-level_within.field-0.0 (c.if-not-is_for.ensures.0 refl) order c.in_ok-value.ensures.ok.1 fault)

pub returns-in_err-level_within-clause-memory : goal.returns-in_err-level_within-clause-memory
returns-in_err-level_within-clause-memory c = λ is.
    let p = err_from_is_err_and c.from_residual-in_err-level_within.result c.from_residual-in_err-level_within.ensures.1 in
    let same : c.in_err-level_within.field-0.0 ≡ OutOfMemory = cc (p.1, p.2, is) in
    level_memory c.args.cert.now.level c.in_ok-value.value c.in_err-level_within.field-0.0 c.in_err-level_within.ensures.fault same

pub returns-in_err-walk-clause-exact : goal.returns-in_err-walk-clause-exact
returns-in_err-walk-clause-exact c =
    let us = c.args.units.now.units in
    let n = c.args.units.now.slots in
    let v = cert_view c.args.cert.now in
    let order : IsOrder (length us) v.order = subst (λ w. IsOrder (length w) v.order) c.as_slice.ensures (subst (IsOrder (length c.as_slice.result.now)) c.as_slice-order.ensures (c.if-not-is_order.ensures.0 refl)) in
    let low : IsLevelIn v.level (value_of v.best) = subst (IsLevelIn v.level) c.in_ok-value.ensures.ok.0 c.in_ok-level_within.ensures.ok in
    let head : HasHead us n v = record { same = c.if-not-is_for.ensures.0 refl; order = order; best = c.in_ok-value.ensures.ok.1; level = low } in
    let found = found_is (loads_of us) n v c.args.loads.now (line_rules c.rules_for-rules.result) c.in_ok-value.value v.level c.as_slice-order.result.now c.walk.result c.requires c.rules_for-rules.ensures c.in_ok-value.ensures.ok.0 refl c.as_slice-order.ensures c.walk.ensures.judged in
    let p = err_from_is_err_and c.from_residual-in_err-walk.result c.from_residual-in_err-walk.ensures.1 in
    rw (p.1, p.2) (fault_from us n v c.in_err-walk.field-0.0 head (sym found ∙ c.in_err-walk.was))

pub returns-in_err-walk-clause-memory : goal.returns-in_err-walk-clause-memory
returns-in_err-walk-clause-memory c = λ is.
    let us = c.args.units.now.units in
    let n = c.args.units.now.slots in
    let v = cert_view c.args.cert.now in
    let found = found_is (loads_of us) n v c.args.loads.now (line_rules c.rules_for-rules.result) c.in_ok-value.value v.level c.as_slice-order.result.now c.walk.result c.requires c.rules_for-rules.ensures c.in_ok-value.ensures.ok.0 refl c.as_slice-order.ensures c.walk.ensures.judged in
    let p = err_from_is_err_and c.from_residual-in_err-walk.result c.from_residual-in_err-walk.ensures.1 in
    let same : c.in_err-walk.field-0.0 ≡ OutOfMemory = cc (p.1, p.2, is) in
    tree_memory us n v c.in_err-walk.field-0.0 (sym found ∙ c.in_err-walk.was) same

pub returns-clause-exact : goal.returns-clause-exact
returns-clause-exact c =
    let us = c.args.units.now.units in
    let n = c.args.units.now.slots in
    let v = cert_view c.args.cert.now in
    let order : IsOrder (length us) v.order = subst (λ w. IsOrder (length w) v.order) c.as_slice.ensures (subst (IsOrder (length c.as_slice.result.now)) c.as_slice-order.ensures (c.if-not-is_order.ensures.0 refl)) in
    let low : IsLevelIn v.level (value_of v.best) = subst (IsLevelIn v.level) c.in_ok-value.ensures.ok.0 c.in_ok-level_within.ensures.ok in
    let head : HasHead us n v = record { same = c.if-not-is_for.ensures.0 refl; order = order; best = c.in_ok-value.ensures.ok.1; level = low } in
    let found = found_is (loads_of us) n v c.args.loads.now (line_rules c.rules_for-rules.result) c.in_ok-value.value v.level c.as_slice-order.result.now c.walk.result c.requires c.rules_for-rules.ensures c.in_ok-value.ensures.ok.0 refl c.as_slice-order.ensures c.walk.ensures.judged in
    let yes_of : IsCertified us n v = record { head = head; shown = tree_from us n v c.in_ok-walk.field-0 low (sym found ∙ c.in_ok-walk.was) } in
    (yes_of, c.verdict_at.ensures v.best c.in_ok-value.ensures.ok.0)

pub returns-clause-sound : goal.returns-clause-sound
returns-clause-sound c =
    let us = c.args.units.now.units in
    let n = c.args.units.now.slots in
    let v = cert_view c.args.cert.now in
    let order : IsOrder (length us) v.order = subst (λ w. IsOrder (length w) v.order) c.as_slice.ensures (subst (IsOrder (length c.as_slice.result.now)) c.as_slice-order.ensures (c.if-not-is_order.ensures.0 refl)) in
    let low : IsLevelIn v.level (value_of v.best) = subst (IsLevelIn v.level) c.in_ok-value.ensures.ok.0 c.in_ok-level_within.ensures.ok in
    let head : HasHead us n v = record { same = c.if-not-is_for.ensures.0 refl; order = order; best = c.in_ok-value.ensures.ok.1; level = low } in
    let found = found_is (loads_of us) n v c.args.loads.now (line_rules c.rules_for-rules.result) c.in_ok-value.value v.level c.as_slice-order.result.now c.walk.result c.requires c.rules_for-rules.ensures c.in_ok-value.ensures.ok.0 refl c.as_slice-order.ensures c.walk.ensures.judged in
    let yes_of : IsCertified us n v = record { head = head; shown = tree_from us n v c.in_ok-walk.field-0 low (sym found ∙ c.in_ok-walk.was) } in
    claim_from c.law_trees_bound.ensures c.law_levels_bound.ensures us n v _ yes_of (c.verdict_at.ensures v.best c.in_ok-value.ensures.ok.0)

pub returns-then-not-is_for-clause-memory : goal.returns-then-not-is_for-clause-memory
returns-then-not-is_for-clause-memory c = search rules
