-- The plan that the places of units make, and what is written of it.
use Rattle.std.proofs.Common.{◌≡◌, ℕ, List, None, Result, Ok, Err, refl, subst, inl, inr}
use Rattle.ec_hyper.specs.Lcm.{lcm_of}
use Rattle.ec_units.specs.declared.slave.Place.{Place}
use Rattle.ec_units.specs.declared.unit.Load.{Load}
use Rattle.ec_units.specs.declared.units.Units.{Units}
use Rattle.ec_units.specs.Load.{loads_of, periods_of}
use Rattle.ec_units.specs.Views.{units_view}
use Rattle.ec_units.proofs.Viewed.{loads_of-views}
use Rattle.ec_loads.specs.declared.plan.Illegal.{Illegal}
use Rattle.ec_loads.specs.Cost.{plan_items}
use Rattle.ec_loads.specs.Legal.{IsLegal, IsIllegalBy}
use Rattle.ec_cli_command.specs.declared.job.Job.{Job}
use Rattle.ec_cli_refusals.specs.declared.refusal.Refusal.{Refusal}
use Rattle.ec_cli_refusals.specs.declared.refusal.Refusal.TheVariants as refusal
use Rattle.ec_cli_text.specs.declared.answer.Answer.{Answer}
use Rattle.ec_cli_text.specs.Plans.{IsPlacedPlan, IsUnplaced, first_unplaced, places_of}
use Rattle.ec_cli_text.specs.Output.{Written, Answers, IsCostText, IsCostsText, refused, shown}

-- it is not legal
pub illegal_plan : (us : Units) (ps : List Place) (f : Illegal) → first_unplaced (units_view us).units ≡ None → ps ≡ places_of (units_view us).units → IsIllegalBy (loads_of us.units) us.slots ps f → IsUnplaced (units_view us) (refusal.Illegal f)
illegal_plan us ps f none given h = inr (
  none,
  f,
  subst (λ (ls : List Load). IsIllegalBy ls us.slots (places_of (units_view us).units) f) (loads_of-views us.units)
      (subst (λ (qs : List Place). IsIllegalBy (loads_of us.units) us.slots qs f) given h),
  refl,
)

-- or it is
pub legal_plan : (us : Units) (ps : List Place) → first_unplaced (units_view us).units ≡ None → ps ≡ places_of (units_view us).units → IsLegal (loads_of us.units) us.slots ps → IsPlacedPlan (units_view us) ps
legal_plan us ps none given legal = record {
  all = none;
  given = given;
  legal = subst (λ (ls : List Load). IsLegal ls us.slots ps) (loads_of-views us.units) legal;
}

-- the text of the costs of units at places, which their views say too
pub costs_text : (us : Units) (ps : List Place) (text : List ℕ) → IsCostText (plan_items (loads_of us.units) ps) us.slots (lcm_of (periods_of (loads_of us.units))) us.tick_ns text → IsCostsText (units_view us) ps text
costs_text us ps text told =
    subst (λ (ls : List Load). IsCostText (plan_items ls ps) us.slots (lcm_of (periods_of ls)) us.tick_ns text) (loads_of-views us.units) told

-- an answer that is as one fact says is as a fact says that follows from it
pub answers_so : (j : Job) (answer : Result Answer Refusal) (P Q : Written → Type 0) → ((w : Written) → P w → Q w) → Answers j answer P → Answers j answer Q
answers_so j (Ok a) P Q so h = so (shown a) h
answers_so j (Err r) P Q so (inl memory) = inl memory
answers_so j (Err r) P Q so (inr h) = inr (so (refused r) h)
