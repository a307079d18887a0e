use Rattle.std.proofs.Common.{length, MatchOption, subst, ◌∙◌, ap, replicate}
use Rattle.ec_units.specs.Load.{loads_of}
use Rattle.ec_branch.specs.FirstPlans.{first_place}
use Rattle.ec_branch.specs.Greedy.{IsGreedyPlan, HasNoGreedyPlan}
use Rattle.ec_branch.proofs.FirstLemmas.{greedy_kept, none_kept, legal_ranges, first_ranges}
use Rattle.ec_branch.proofs.bettered.greedy_best.Goals as goal

pub returns-in-Some-clause-best : goal.returns-in-Some-clause-best
returns-in-Some-clause-best c =
    greedy_kept (loads_of c.args.units.now.units) c.args.units.now.slots c.in-Some.plan.places c.into_vec.result.items c.busiest-cost.result.0 c.busiest-cost.result.1
    (subst (λ w. MatchOption w (HasNoGreedyPlan (loads_of c.args.units.now.units) c.args.units.now.slots) (λ plan. IsGreedyPlan (loads_of c.args.units.now.units) c.args.units.now.slots plan.places)) c.in-Some.is c.in_ok-plan.ensures.best)
    (c.in_ok-plan.ensures.legal c.in-Some.plan c.in-Some.is) c.busiest-cost.ensures.busiest c.into_vec.ensures

pub returns-in-Some-clause-ranges : goal.returns-in-Some-clause-ranges
returns-in-Some-clause-ranges c = legal_ranges (loads_of c.args.units.now.units) c.args.units.now.slots c.in-Some.plan.places c.into_vec.result.items (c.in_ok-plan.ensures.legal c.in-Some.plan c.in-Some.is) c.into_vec.ensures

pub returns-in_ok-all_first-in-None-clause-best : goal.returns-in_ok-all_first-in-None-clause-best
returns-in_ok-all_first-in-None-clause-best c = none_kept (loads_of c.args.units.now.units) c.args.units.now.slots c.in_ok-all_first-in-None.field-0.items
    (subst (λ w. MatchOption w (HasNoGreedyPlan (loads_of c.args.units.now.units) c.args.units.now.slots) (λ plan. IsGreedyPlan (loads_of c.args.units.now.units) c.args.units.now.slots plan.places)) c.in-None.is c.in_ok-plan.ensures.best)

pub returns-in_ok-all_first-in-None-clause-ranges : goal.returns-in_ok-all_first-in-None-clause-ranges
returns-in_ok-all_first-in-None-clause-ranges c =
    first_ranges c.args.units.now.units c.args.units.now.slots c.in_ok-all_first-in-None.field-0.items c.args.units.now.slot_range.0
    (c.in_ok-all_first-in-None.ensures ∙ ap (λ w. replicate (length w) first_place) c.as_slice.ensures)
