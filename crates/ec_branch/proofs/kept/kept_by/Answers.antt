use Rattle.std.proofs.Common.{◌≡◌, slice_get, Some, IsSomeAnd, ap, sym, ◌∙◌, subst}
use Rattle.ec_units.specs.Load.{loads_of}
use Rattle.ec_loads.specs.Held.{Held}
use Rattle.ec_loads.specs.Legal.{IsLegal}
use Rattle.ec_loads.specs.declared.plan.Plan.{Plan}
use Rattle.ec_branch.specs.Kept.{Keeps}
use Rattle.ec_branch.proofs.KeptLemmas.{all_kept}
use Rattle.ec_branch.proofs.kept.kept_by.Goals as goal

pub returns-in_default-clause-own : goal.returns-in_default-clause-own
returns-in_default-clause-own c =
    λ ps own legal.
    let from = ap (λ (h : Held). h.places) c.in_ok-loads.ensures in
    let whole = all_kept c.args.units.now.units ps _ c.place_others.new.loads.places from c.place_others.ensures.len c.place_others.ensures.kept own in
    subst (λ o. IsSomeAnd o (λ (plan : Plan). plan.places ≡ ps)) c.in_default.is (c.in_ok-plan.ensures.none ps whole)

pub returns-in-Ok-clause-kept : goal.returns-in-Ok-clause-kept
returns-in-Ok-clause-kept c =
    λ x is k p own.
    let from = ap (λ (h : Held). h.places) c.in_ok-loads.ensures in
    let kept = subst (λ w. Keeps w c.place_others.new.loads.places) from c.place_others.ensures.kept in
    subst (λ w. slice_get w k ≡ Some (Some p)) (sym (c.in_ok-plan.ensures.plan x (c.in-Some.is ∙ is))) (kept k p own)

pub returns-in-Ok-clause-own : goal.returns-in-Ok-clause-own
returns-in-Ok-clause-own c =
    λ ps own legal.
    let from = ap (λ (h : Held). h.places) c.in_ok-loads.ensures in
    let whole = all_kept c.args.units.now.units ps _ c.place_others.new.loads.places from c.place_others.ensures.len c.place_others.ensures.kept own in
    subst (λ o. IsSomeAnd o (λ (plan : Plan). plan.places ≡ ps)) c.in-Some.is (c.in_ok-plan.ensures.none ps whole)

pub returns-clause-own : goal.returns-clause-own
returns-clause-own c =
    λ ps own legal.
    let from = ap (λ (h : Held). h.places) c.in_ok-loads.ensures in
    let whole = all_kept c.args.units.now.units ps _ c.place_others.new.loads.places from c.place_others.ensures.len c.place_others.ensures.kept own in
    let same = subst (λ o. IsSomeAnd o (λ (plan : Plan). plan.places ≡ ps)) c.in-Some.is (c.in_ok-plan.ensures.none ps whole) in
    absurd (c.in-Err.ensures.refused (subst (IsLegal (loads_of c.args.units.now.units) c.args.units.now.slots) (sym same) legal))
