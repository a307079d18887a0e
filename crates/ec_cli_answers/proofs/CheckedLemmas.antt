-- From what is found in a certificate's text to what is written.
use Rattle.std.proofs.Common.{◌≡◌, ◌≢◌, ℕ, ◌<◌, List, length, Result, Ok, Err, refl, ap, ◌∙◌, inl, inr}
use Rattle.std.specs.Prelude.{◌⊎◌}
use Rattle.std.proofs.lemmas.Bool.{lt-ltb}
use Rattle.ec_units.specs.declared.units.Units.{Units}
use Rattle.ec_units.specs.Views.{units_view}
use Rattle.ec_cert_text.specs.declared.fault.CertFault.{CertFault}
use Rattle.ec_cert_text.specs.declared.fault.CertFault.TheVariants as cert
use Rattle.ec_cert_text.specs.Reading.{Fails, reading as cert_reading}
use Rattle.ec_cert.specs.Shapes.{CertView}
use Rattle.ec_checker.specs.declared.fault.CheckFault.{CheckFault}
use Rattle.ec_checker.specs.declared.fault.CheckFault.TheVariants as check
use Rattle.ec_checker.specs.declared.fault.Verdict.{Verdict}
use Rattle.ec_checker.specs.Certified.{IsFaultOf, verdict_of}
use Rattle.ec_cli_text.specs.declared.answer.Answer.{Answer}
use Rattle.ec_cli_refusals.specs.declared.refusal.Refusal.{Refusal}
use Rattle.ec_cli_refusals.specs.declared.refusal.Refusal.TheVariants as refusal
use Rattle.ec_cli_command.specs.declared.job.Job.TheVariants as job
use Rattle.ec_cli_refusals.specs.Refusals.{IsMemory}
use Rattle.ec_cli_text.specs.Output.{Answers, IsCheckOutput, shown, refused, verdict_output}
use Rattle.ec_cli_answers.specs.RightTexts.{IsRightText, IsWrongText}

-- ---- why a text says no certificate to which the checker says yes

pub memory_or : (f : CheckFault) → (f ≡ check.OutOfMemory) ⊎ (f ≢ check.OutOfMemory)
memory_or check.OutOfMemory = inl refl
memory_or f = inr (λ e. absurd cc)

read_memory_or : {A : Type 0} (f : CertFault) (read : Result A CertFault) → Fails f read → (f ≡ cert.OutOfMemory) ⊎ (read ≡ Err f)
read_memory_or cert.OutOfMemory read h = inl refl
read_memory_or f read h = inr h

-- the text has this fault, or the checker finds this one in the certificate that it says
abbrev IsFaulty : Units → List ℕ → Refusal → Type 0
IsFaulty us text r =
    ((f : CertFault) × (cert_reading text ≡ Err f) × (r ≡ refusal.Cert f))
    ⊎ ((c : CertView) × (cert_reading text ≡ Ok c) × ((f : CheckFault) × (f ≢ check.OutOfMemory) × IsFaultOf us.units us.slots c f × (r ≡ refusal.Check f)))

pub wrong_why : (us : Units) (text : List ℕ) (r : Refusal) → IsWrongText us text r → IsMemory job.Check r ⊎ IsFaulty us text r
wrong_why us text r (inl h) = elim (read_memory_or h.0 (cert_reading text) h.2) [
  | inl memory ↦ inl (inr (inl (h.1 ∙ ap (λ (f : CertFault). refusal.Cert f) memory)))
  | inr said ↦ inr (inl (h.0, said, h.1))
]
wrong_why us text r (inr h) = elim (memory_or h.2.0) [
  | inl memory ↦ inl (inr (inr (h.2.1 ∙ ap (λ (f : CheckFault). refusal.Check f) memory)))
  | inr other ↦ inr (inr (h.0, h.1, (h.2.0, other, h.2.2, h.2.1)))
]

-- ---- a check

pub checked_yes : (us : Units) (text : List ℕ) (c : CertView) (a : Answer) (v : Verdict) → IsRightText us text c → v ≡ verdict_of c.best c.level → shown a ≡ verdict_output v → IsCheckOutput (units_view us) text (shown a)
checked_yes us text c a v right said told = rw right.0 (us, refl, inl (right.1.certified, told ∙ ap verdict_output said))

pub checked_no : (us : Units) (text : List ℕ) (r : Refusal) (a : Result Answer Refusal) → a ≡ Err r → IsWrongText us text r → Answers job.Check a (IsCheckOutput (units_view us) text)
checked_no us text r a is h = rw is (elim (wrong_why us text r h) [
  | inl memory ↦ inl memory
  | inr (inl said) ↦ inr (rw said.1 (ap refused said.2))
  | inr (inr judged) ↦ inr (rw judged.1 (us, refl, inr (judged.2.0, judged.2.1, judged.2.2, ap refused judged.2.3)))
])

-- a text with too many bytes is no certificate
pub too_long : (text : List ℕ) → 67108864 < length text → cert_reading text ≡ Err cert.TooLarge
unfolding cert_reading
too_long text h = rw (lt-ltb 67108864 (length text) h) refl
