-- From what comes of going on with a certificate to what is answered.
-- What a resume finds of a certificate that is a proof is that certificate's own outcome, so nothing after it asks how
-- it came about.
use Rattle.std.proofs.Common.{◌≡◌, ℕ, List, Option, Some, None, Result, Ok, Err, refl, sym, ap, subst, ◌∙◌, inl, inr}
use Rattle.std.specs.Prelude.{◌⊎◌}
use Rattle.ec_units.specs.declared.slave.Place.{Place}
use Rattle.ec_units.specs.declared.unit.Unit.{Unit as SyncUnit}
use Rattle.ec_units.specs.declared.units.Units.{Units}
use Rattle.ec_units.specs.Load.{loads_of}
use Rattle.ec_loads.specs.Shape.{Shape, open_leaf}
use Rattle.ec_cert.specs.declared.cert.Best.{Best}
use Rattle.ec_cert.specs.declared.part.Part.{Part}
use Rattle.ec_cert.specs.IsBestPlan.{IsBestPlan, value_of}
use Rattle.ec_cert.specs.Shapes.{CertView, shape_of}
use Rattle.ec_cert.specs.WellFormed.{IsWellFormed}
use Rattle.ec_cert_text.specs.declared.fault.CertFault.TheVariants as cert
use Rattle.ec_tree.specs.Trees.{TreesBound, LevelsBound}
use Rattle.ec_checker.specs.declared.fault.CheckFault.{CheckFault}
use Rattle.ec_checker.specs.declared.fault.CheckFault.TheVariants as check
use Rattle.ec_checker.specs.declared.fault.Verdict.{Verdict}
use Rattle.ec_checker.specs.declared.fault.Verdict.TheVariants as verdict
use Rattle.ec_checker.specs.Certified.{IsCertified, IsAnswer, verdict_of}
use Rattle.ec_checker.specs.Laws.{FaultsRefute}
use Rattle.ec_checker.proofs.CheckLemmas.{claim_from}
use Rattle.ec_outcome.specs.declared.search.Outcome.{Outcome}
use Rattle.ec_outcome.specs.declared.search.Outcome.TheVariants as outcome
use Rattle.ec_workers.specs.Answers.{Asked, asked_beyond, GoesBeyond, IsOutcome, HasOrder, HasRules, is_strong, KeepsToPart}
use Rattle.ec_workers.specs.Outcomes.{Shows, IsOptimal, IsWithoutPlan}
use Rattle.ec_book.specs.Parts.{LeavesOthers}
use Rattle.ec_workers.proofs.GrowLemmas.{drawn-same, stays}
use Rattle.ec_cli_refusals.specs.declared.refusal.Refusal.{Refusal}
use Rattle.ec_cli_inputs.specs.Input.{AnswersUnits, IsInputFault}
use Rattle.ec_cli_answers.specs.Planned.{GoesOn, GoesOnFrom, IsProofBy, IsStoppedFrom, IsResumeOf, IsResumeFault}
use Rattle.ec_cli_answers.proofs.CheckedLemmas.{memory_or, too_long}

-- ---- a certificate that is a proof

-- the checker answers nothing else of it than its verdict, unless memory runs out
checked_of : FaultsRefute → (units : List SyncUnit) (n : ℕ) (c : CertView) (v : Verdict) → IsCertified units n c → v ≡ verdict_of c.best c.level → (r : Result Verdict CheckFault) → IsAnswer units n c r → (r ≡ Ok v) ⊎ (r ≡ Err check.OutOfMemory)
checked_of refute units n c v is said (Ok w) a = inl (ap (λ (x : Verdict). Ok x) (a.1 ∙ sym said))
checked_of refute units n c v is said (Err e) a = elim (memory_or e) [
  | inl m ↦ inr (ap (λ (x : CheckFault). Err x) m)
  | inr other ↦ absurd (refute units n c e other a is)
]

shows_of : FaultsRefute → (units : List SyncUnit) (n : ℕ) (c : CertView) (v : Verdict) → IsWellFormed c → IsCertified units n c → v ≡ verdict_of c.best c.level → Shows units n c v
shows_of refute units n c v formed is said = record { formed = formed; certified = is; checked = checked_of refute units n c v is said }

least_is : (best : Option Best) (level : Option ℕ) (b : Best) → best ≡ Some b → level ≡ None → verdict.Least b.busiest ≡ verdict_of best level
least_is best level b is none = rw (is, none) refl

none_is : (best : Option Best) (level : Option ℕ) → best ≡ None → level ≡ None → verdict.NoPlan ≡ verdict_of best level
none_is best level is none = rw (is, none) refl

pub optimal_by : FaultsRefute → TreesBound → LevelsBound → (units : List SyncUnit) (n : ℕ) (c : CertView) (b : Best) (plan : List Place) → IsWellFormed c → IsCertified units n c → c.level ≡ None → c.best ≡ Some b → plan ≡ b.plan.places → IsOptimal units n plan b.busiest c
optimal_by refute trees levels units n c b plan formed is none best copied =
    let said = least_is c.best c.level b best none in
    let claim = claim_from trees levels units n c (verdict.Least b.busiest) is said in
    let own = subst (IsBestPlan (loads_of units) n) best is.head.best in
    subst (λ (w : List Place). IsOptimal units n w b.busiest c) (sym copied)
    (record {
      legal = own.0;
      busiest = own.1;
      bounds = claim.0.bounds;
      held = (b, best, refl, refl);
      shows = shows_of refute units n c (verdict.Least b.busiest) formed is said;
    })

pub without_by : FaultsRefute → TreesBound → LevelsBound → (units : List SyncUnit) (n : ℕ) (c : CertView) → IsWellFormed c → IsCertified units n c → c.level ≡ None → c.best ≡ None → IsWithoutPlan units n c
without_by refute trees levels units n c formed is none best =
    let said = none_is c.best c.level best none in
    record {
      none = claim_from trees levels units n c verdict.NoPlan is said;
      held = best;
      shows = shows_of refute units n c verdict.NoPlan formed is said;
    }

own_order : (c : CertView) (o : Outcome) → IsProofBy c o → HasOrder c.order o
own_order c (outcome.Optimal plan b cert) own = ap (λ (x : CertView). x.order) own
own_order c (outcome.NoPlan cert) own = ap (λ (x : CertView). x.order) own
own_order c (outcome.Unproved best order tree strong why) own = absurd own

own_rules : (c : CertView) (o : Outcome) → IsProofBy c o → HasRules (is_strong c) o
own_rules c (outcome.Optimal plan b cert) own = ap is_strong own
own_rules c (outcome.NoPlan cert) own = ap is_strong own
own_rules c (outcome.Unproved best order tree strong why) own = absurd own

no_level : (l : ℕ) → None ≡ Some l → ⊥
no_level l e = absurd cc

-- a proof goes on from itself
own_beyond : (nodes : ℕ) (us : Units) (c : CertView) (o : Outcome) → IsOutcome us.units us.slots (asked_beyond (is_strong c) 1 0 c.tree 1) o → IsProofBy c o → GoesBeyond c.tree (value_of c.best) nodes o
own_beyond nodes us c (outcome.Optimal plan b cert) is own =
    let value : Some b ≡ value_of c.best = ap (λ x. Some x) (sym is.held.2) ∙ ap value_of (sym is.held.1) ∙ ap (λ (x : CertView). value_of x.best) own in
    subst (λ (t : Shape). GoesBeyond t (value_of c.best) nodes (outcome.Optimal plan b cert)) (ap (λ (x : CertView). x.tree) own)
    (subst (λ (v : Option ℕ). GoesBeyond (shape_of cert.tree) v nodes (outcome.Optimal plan b cert)) value (stays nodes (outcome.Optimal plan b cert)))
own_beyond nodes us c (outcome.NoPlan cert) is own =
    let value : None ≡ value_of c.best = ap value_of (sym is.held) ∙ ap (λ (x : CertView). value_of x.best) own in
    subst (λ (t : Shape). GoesBeyond t (value_of c.best) nodes (outcome.NoPlan cert)) (ap (λ (x : CertView). x.tree) own)
    (subst (λ (v : Option ℕ). GoesBeyond (shape_of cert.tree) v nodes (outcome.NoPlan cert)) value (stays nodes (outcome.NoPlan cert)))
own_beyond nodes us c (outcome.Unproved best order tree strong why) is own = absurd own

-- a tree leaves its own leaves as they are, so a proof keeps to each part
leaves_own : (part : Part) (t : Shape) → LeavesOthers part t t
leaves_own part t = ((λ _. open_leaf), sym (drawn-same t 0), λ m below no. refl)

own_others : (part : Part) (c : CertView) (o : Outcome) → IsProofBy c o → KeepsToPart part c.tree o
own_others part c (outcome.Optimal plan b cert) own = record {
  others = subst (λ (t : Shape). LeavesOthers part t (shape_of cert.tree)) (ap (λ (x : CertView). x.tree) own) (leaves_own part (shape_of cert.tree));
  closed = λ why. absurd why;
}
own_others part c (outcome.NoPlan cert) own = record {
  others = subst (λ (t : Shape). LeavesOthers part t (shape_of cert.tree)) (ap (λ (x : CertView). x.tree) own) (leaves_own part (shape_of cert.tree));
  closed = λ why. absurd why;
}
own_others part c (outcome.Unproved best order tree strong why) own = absurd own

pub goes_by_proof : (workers nodes : ℕ) (part : Part) (us : Units) (c : CertView) (o : Outcome) → IsCertified us.units us.slots c → c.level ≡ None → ((asked : Asked) → IsOutcome us.units us.slots asked o) → IsProofBy c o → GoesOn workers nodes part us c o
goes_by_proof workers nodes part us c o right none is own = record {
  right = right;
  answer = is (asked_beyond (is_strong c) workers nodes c.tree part.count);
  beyond = own_beyond nodes us c o (is (asked_beyond (is_strong c) 1 0 c.tree 1)) own;
  others = own_others part c o own;
  level = λ l some. absurd (no_level l (sym none ∙ some));
  proof = λ _. own;
  order = own_order c o own;
  rules = own_rules c o own;
}

-- ---- why nothing comes of it

-- a text from which nothing comes
pub stopped_text : (workers : ℕ) (bytes text : List ℕ) (us : Units) (r : Refusal) → AnswersUnits (Ok us) bytes → IsStoppedFrom workers us text r → IsResumeFault workers bytes text r
stopped_text workers bytes text us r read (inl memory) = inl (inr (inl memory))
stopped_text workers bytes text us r read (inr (inl fault)) = inl (inr (inr fault))
stopped_text workers bytes text us r read (inr (inr wrong)) = inr (inr (us, read, wrong))

-- why there are no inputs is why nothing comes of it
pub unresumed : (workers : ℕ) (bytes text : List ℕ) (r : Refusal) → IsInputFault bytes text r → IsResumeFault workers bytes text r
unresumed workers bytes text r (inl (inl memory)) = inl (inr (inl memory))
unresumed workers bytes text r (inl (inr room)) = inr (inl room)
unresumed workers bytes text r (inr (inl h)) = inl (inl h)
unresumed workers bytes text r (inr (inr h)) = inr (inr (h.0, h.1, inl (cert.TooLarge, h.2, too_long text h.3)))

-- an outcome of the text for the units that the bytes say
pub resume_of : (workers nodes : ℕ) (part : Part) (bytes text : List ℕ) (us : Units) (o : Outcome) → AnswersUnits (Ok us) bytes → GoesOnFrom workers nodes part us text o → IsResumeOf workers nodes part bytes text us o
resume_of workers nodes part bytes text us o read goes = record { read = read; cert = goes.0; said = goes.1; goes = goes.2 }
