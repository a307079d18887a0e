-- From units, a certificate and what the checker answers to the plan of which is told, or why there is none.
use Rattle.std.proofs.Common.{◌≡◌, ℕ, List, Option, Some, None, Result, Ok, Err, refl, subst, inl, inr}
use Rattle.std.specs.Prelude.{◌⊎◌, ◌≤◌, length, IfErr}
use Rattle.ec_units.specs.declared.units.Units.{Units}
use Rattle.ec_units.specs.Views.{units_view}
use Rattle.ec_unit_text.specs.Reading.{reading}
use Rattle.ec_loads.specs.declared.plan.Plan.{Plan}
use Rattle.ec_cert.specs.declared.cert.Best.{Best}
use Rattle.ec_cert.specs.Shapes.{CertView}
use Rattle.ec_cert_text.specs.declared.fault.CertFault.TheVariants as cert
use Rattle.ec_cli_command.specs.declared.job.Job.TheVariants as job
use Rattle.ec_cli_refusals.specs.declared.refusal.Refusal.{Refusal}
use Rattle.ec_cli_refusals.specs.declared.refusal.Refusal.TheVariants as refusal
use Rattle.ec_cli_refusals.specs.Refusals.{IsMemory}
use Rattle.ec_cli_text.specs.Plans.{IsCertless, IsCertPlan, IsFramedPlan, IsPlanless}
use Rattle.ec_cli_inputs.specs.Input.{IsUnread, Says, text_given}
use Rattle.ec_cli_inputs.specs.declared.input.Inputs.{Inputs}
use Rattle.ec_cli_answers.specs.Captures.{GivesNoPlan, IsPlanWant}
use Rattle.ec_cli_answers.specs.RightTexts.{IsRightText, IsWrongText}
use Rattle.ec_cli_answers.proofs.CheckedLemmas.{too_long, wrong_why}

-- ---- the plan of a certificate's text

pub plan_held : (us : Units) (text : List ℕ) (c : CertView) (b : Best) → IsRightText us text c → c.best ≡ Some b → IsCertPlan text (units_view us) b.plan.places
plan_held us text c b right held = record { units = us; seen = refl; cert = c; said = right.0; right = right.1.certified; best = b; held = held; plan = refl }

-- there is none
pub framed_none : (us : Units) (text : List ℕ) (c : CertView) → IsRightText us text c → c.best ≡ None → IsCertless text (units_view us) refusal.CertHasNoPlan
framed_none us text c right none = inr (c, right.0, us, refl, inl (right.1.certified, none, refl))

-- there is no certificate
pub framed_no : {X : Type 0} (us : Units) (text : List ℕ) (r : Refusal) (p : Result X Refusal) → p ≡ Err r → IsWrongText us text r → IfErr p (λ r. IsMemory job.Check r ⊎ IsCertless text (units_view us) r)
framed_no us text r p is h = rw is (elim (wrong_why us text r h) [
  | inl memory ↦ inl memory
  | inr (inl said) ↦ inr (inl said)
  | inr (inr judged) ↦ inr (inr (judged.0, judged.1, us, refl, inr judged.2))
])

-- ---- the plan for the bytes that the inputs were read of

-- the units that bytes say, with the plan of which is told
abbrev pub GivesPlan : Option (List ℕ) → List ℕ → Units → Plan → Type 0
GivesPlan cert bytes us plan = (length bytes ≤ 1048576) × (reading bytes ≡ Ok (units_view us)) × IsFramedPlan cert (units_view us) plan.places

-- or why there are none, which may be want of memory
abbrev pub IsUntold : Option (List ℕ) → List ℕ → Refusal → Type 0
IsUntold cert bytes r = IsPlanWant cert r ⊎ GivesNoPlan cert bytes r

pub plan_from : (bytes : List ℕ) (cert : Option (List ℕ)) (i : Inputs) (plan : Plan) → Says bytes cert i → IsFramedPlan (text_given i) (units_view i.units) plan.places → GivesPlan cert bytes i.units plan
plan_from bytes cert i plan says h = (says.0.0, says.0.1, subst (λ (t : Option (List ℕ)). IsFramedPlan t (units_view i.units) plan.places) says.1 h)

pub fault_from : (bytes : List ℕ) (cert : Option (List ℕ)) (i : Inputs) (r : Refusal) → Says bytes cert i → (IsPlanWant (text_given i) r ⊎ IsPlanless (text_given i) (units_view i.units) r) → IsUntold cert bytes r
fault_from bytes cert i r says (inl memory) = inl (subst (λ (t : Option (List ℕ)). IsPlanWant t r) says.1 memory)
fault_from bytes cert i r says (inr h) = inr (inr (units_view i.units, says.0.0, says.0.1, subst (λ (t : Option (List ℕ)). IsPlanless t (units_view i.units) r) says.1 h))

-- why there are no inputs is why there is none
pub unread_untold : (bytes : List ℕ) (cert : Option (List ℕ)) (r : Refusal) → IsUnread bytes cert r → IsUntold cert bytes r
unread_untold bytes None r (inl memory) = inl memory
unread_untold bytes None r (inr fault) = inr (inl fault)
unread_untold bytes (Some t) r (inl (inl memory)) = inl (inl memory)
unread_untold bytes (Some t) r (inl (inr room)) = inl (inr (inr room))
unread_untold bytes (Some t) r (inr (inl fault)) = inr (inl fault)
unread_untold bytes (Some t) r (inr (inr h)) = inr (inr (units_view h.0, h.1.0, h.1.1, inl (cert.TooLarge, too_long t h.3, h.2)))
