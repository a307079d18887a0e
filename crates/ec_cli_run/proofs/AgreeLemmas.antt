-- What searches and checks claim of the same units agrees.
use Rattle.std.proofs.Common.{◌≡◌, ◌∙◌, ℕ, ◌≤◌, List, [], Option, Some, None, Ok, refl, sym, ap, subst, inl, inr, arith}
use Rattle.std.specs.Prelude.{◌++◌, IfSome}
use Rattle.std.proofs.lemmas.List.{append-nil}
use Rattle.ec_units.specs.declared.slave.Place.{Place}
use Rattle.ec_units.specs.declared.unit.Load.{Load}
use Rattle.ec_units.specs.declared.units.Units.{Units}
use Rattle.ec_units.specs.Load.{loads_of}
use Rattle.ec_units.specs.Views.{UnitsView, units_view, view_loads}
use Rattle.ec_units.proofs.Viewed.{loads_of-views}
use Rattle.ec_unit_text.specs.Reading.{reading}
use Rattle.ec_loads.specs.Cost.{plan_items, IsBusiest}
use Rattle.ec_loads.specs.Legal.{IsLegal}
use Rattle.ec_loads.specs.Search.{BoundsAll, HasNoPlan}
use Rattle.ec_cert.specs.declared.cert.Best.{Best}
use Rattle.ec_cert.specs.IsBestPlan.{value_of, IsBestPlan}
use Rattle.ec_outcome.specs.declared.search.Cut.{Cut}
use Rattle.ec_tree.specs.Trees.{TreesBound, LevelsBound}
use Rattle.ec_cli_text.specs.Lines.{cut_line, level_line, unit_lines, unproved_line}
use Rattle.ec_cli_text.specs.Outcomes.{unproved_text}
use Rattle.ec_cli_text.specs.Output.{Written}
use Rattle.ec_cli_run.specs.Sound.{AgreeWith, AnswersAgree, Claims, HasClaim, IsAnswer, TellsAtLeast, TellsLeast, TellsNoPlan, TellsOptimal, TellsUnproved, TellsWithoutPlan}
use Rattle.ec_cli_run.proofs.OneOutput.{ok_once}
use Rattle.ec_cli_run.proofs.PlanSound.{some_same, told_least, told_true}
use Rattle.ec_cli_run.proofs.SoundLemmas.{yes_true}

-- some legal plan costs so much, if a number is given
abbrev IsReached : List Load → ℕ → Option ℕ → Type 0
IsReached ls n plan = IfSome plan (λ b. (places : List Place) × IsLegal ls n places × IsBusiest (plan_items ls places) n b)

-- what an answer claims, and that it is so
record IsClaimed (bytes : List ℕ) (w : Written) : Type 0 where
  units : UnitsView
  said : reading bytes ≡ Ok units
  plan : Option ℕ
  bound : ℕ
  claims : Claims w plan bound
  reached : IsReached (view_loads units.units) units.slots plan
  bounds : BoundsAll (view_loads units.units) units.slots (Some bound)

-- and of `no plan`
record IsWithout (bytes : List ℕ) : Type 0 where
  units : UnitsView
  said : reading bytes ≡ Ok units
  none : HasNoPlan (view_loads units.units) units.slots

-- ---- of one answer

of_optimal : (bytes : List ℕ) (w : Written) (cert : Option (List ℕ)) → TellsOptimal bytes w cert → IsClaimed bytes w
of_optimal bytes w cert h =
    let least = told_least bytes w cert h in
    record {
      units = units_view h.units;
      said = h.said;
      plan = Some h.busiest;
      bound = h.busiest;
      claims = inl (_, h.lines, refl);
      reached = (least.plan, least.legal, least.busiest);
      bounds = least.bounds;
    }

of_least : (bytes : List ℕ) (w : Written) → TellsLeast bytes w → IsClaimed bytes w
of_least bytes w h = record {
  units = h.units;
  said = h.said;
  plan = Some h.busiest;
  bound = h.busiest;
  claims = inr (inl (h.line, refl));
  reached = (h.least.plan, h.least.legal, h.least.busiest);
  bounds = h.least.bounds;
}

of_level : (bytes : List ℕ) (w : Written) → TellsAtLeast bytes w → IsClaimed bytes w
of_level bytes w h = record {
  units = h.units;
  said = h.said;
  plan = None;
  bound = h.level;
  claims = inr (inr (inl (h.line, refl)));
  reached = tt;
  bounds = h.bounds;
}

unproved_claims : (w : Written) (us : Units) (best : Option Best) (why : Cut) (l : ℕ) → w.text ≡ unproved_text us.units best why (Some l) → Claims w (value_of best) l
unproved_claims w us None why l is =
    inr (inr (inr (why, [], is ∙ ap (λ (rest : List ℕ). unproved_line None ++ (cut_line why ++ rest)) (sym (append-nil (level_line l))))))
unproved_claims w us (Some b) why l is = inr (inr (inr (why, unit_lines us.units b.plan.places, is)))

best_reached : (ls : List Load) (n : ℕ) (best : Option Best) → IsBestPlan ls n best → IsReached ls n (value_of best)
best_reached ls n None h = tt
best_reached ls n (Some b) h = (b.plan.places, h.0, h.1)

of_unproved : (bytes : List ℕ) (w : Written) (cert : Option (List ℕ)) → TellsUnproved bytes w cert → IsClaimed bytes w
of_unproved bytes w cert h =
    let same = loads_of-views h.units.units in
    record {
      units = units_view h.units;
      said = h.said;
      plan = value_of h.best;
      bound = h.level;
      claims = unproved_claims w h.units h.best h.why h.level h.lines;
      reached = subst (λ (ls : List Load). IsReached ls h.units.slots (value_of h.best)) same (best_reached (loads_of h.units.units) h.units.slots h.best h.legal);
      bounds = subst (λ (ls : List Load). BoundsAll ls h.units.slots (Some h.level)) same h.bounds;
    }

without_search : (bytes : List ℕ) (w : Written) (cert : Option (List ℕ)) → TellsWithoutPlan bytes w cert → IsWithout bytes
without_search bytes w cert h = record {
  units = units_view h.units;
  said = h.said;
  none = subst (λ (ls : List Load). HasNoPlan ls h.units.slots) (loads_of-views h.units.units) h.none;
}

without_check : (bytes : List ℕ) (w : Written) → TellsNoPlan bytes w → IsWithout bytes
without_check bytes w h = record { units = h.units; said = h.said; none = h.none }

claim_of : TreesBound → LevelsBound → (bytes : List ℕ) (w : Written) → IsAnswer bytes w → HasClaim w → IsClaimed bytes w
claim_of trees levels bytes w (inl h) (inl zero) = let truth = told_true levels bytes w h in of_optimal bytes w truth.0 (truth.1.0 zero)
claim_of trees levels bytes w (inl h) (inr two) = let truth = told_true levels bytes w h in of_unproved bytes w truth.0 (truth.1.2 two)
claim_of trees levels bytes w (inr h) (inl zero) = of_least bytes w ((yes_true trees levels bytes h.0 w h.1).0 zero)
claim_of trees levels bytes w (inr h) (inr two) = of_level bytes w ((yes_true trees levels bytes h.0 w h.1).2 two)

without_of : TreesBound → LevelsBound → (bytes : List ℕ) (w : Written) → IsAnswer bytes w → w.code ≡ 1 → IsWithout bytes
without_of trees levels bytes w (inl h) one = let truth = told_true levels bytes w h in without_search bytes w truth.0 (truth.1.1 one)
without_of trees levels bytes w (inr h) one = without_check bytes w ((yes_true trees levels bytes h.0 w h.1).1 one)

-- ---- of two

-- a bound on every plan is at most what one costs
within : (ls : List Load) (n : ℕ) (plan : Option ℕ) (l : ℕ) → IsReached ls n plan → BoundsAll ls n (Some l) → IfSome plan (λ b. l ≤ b)
within ls n None l reached bounds = tt
within ls n (Some b) l (places, legal, busiest) bounds =
    let at = bounds places legal in
    omega (arith, some_same l at.0 at.1, at.3, busiest.most at.2)

-- the same of another reading of the same bytes
within_both : (bytes : List ℕ) (v w : Written) (h : IsClaimed bytes v) (k : IsClaimed bytes w) → IfSome h.plan (λ b. k.bound ≤ b)
within_both bytes v w h k =
    let same : k.units ≡ h.units = ok_once (reading bytes) k.units h.units k.said h.said in
    within (view_loads h.units.units) h.units.slots h.plan k.bound h.reached (subst (λ (u : UnitsView). BoundsAll (view_loads u.units) u.slots (Some k.bound)) same k.bounds)

agree : (bytes : List ℕ) (v w : Written) → IsClaimed bytes v → IsClaimed bytes w → AgreeWith v w
agree bytes v w h k = record {
  plan = h.plan;
  bound = h.bound;
  other_plan = k.plan;
  other_bound = k.bound;
  claims = h.claims;
  other_claims = k.claims;
  above = within_both bytes v w h k;
  other_above = within_both bytes w v k h;
}

-- where no plan is legal, none is claimed
none_claimed : (w : Written) (ls : List Load) (n : ℕ) (plan : Option ℕ) (l : ℕ) → HasNoPlan ls n → IsReached ls n plan → Claims w plan l → (bound : ℕ) × Claims w None bound
none_claimed w ls n None l none reached claims = (l, claims)
none_claimed w ls n (Some b) l none (places, legal, busiest) claims = absurd (none places legal)

without : (bytes : List ℕ) (w : Written) → IsWithout bytes → IsClaimed bytes w → (bound : ℕ) × Claims w None bound
without bytes w h k =
    let same : h.units ≡ k.units = ok_once (reading bytes) h.units k.units h.said k.said in
    none_claimed w (view_loads k.units.units) k.units.slots k.plan k.bound (subst (λ (u : UnitsView). HasNoPlan (view_loads u.units) u.slots) same h.none) k.reached k.claims

pub all_agree : TreesBound → LevelsBound → AnswersAgree
all_agree trees levels bytes v w p q = (
  λ first second. agree bytes v w (claim_of trees levels bytes v p first) (claim_of trees levels bytes w q second),
  λ one second. without bytes w (without_of trees levels bytes v p one) (claim_of trees levels bytes w q second),
)
