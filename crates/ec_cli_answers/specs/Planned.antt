-- What a search writes, begun or resumed: the text of an outcome, and before it its certificate.
use Rattle.std.specs.Prelude.{◌≡◌, ◌⊎◌, ℕ, Bool, true, List, Option, Some, None, Ok, option_map}
use Rattle.std.specs.Io.KnownBytes.{Appends}
use Rattle.ec_wire.specs.declared.io.Io.{Io}
use Rattle.ec_wire.specs.Stream.{stream, WritesFront}
use Rattle.ec_units.specs.declared.units.Units.{Units}
use Rattle.ec_units.specs.Load.{loads_of}
use Rattle.ec_loads.specs.Shape.{open_leaf}
use Rattle.ec_cert.specs.declared.part.Part.{Part}
use Rattle.ec_cert.specs.IsBestPlan.{value_of}
use Rattle.ec_cert.specs.Shapes.{CertView, cert_view, shape_of}
use Rattle.ec_cert_text.specs.Reading.{reading as cert_reading}
use Rattle.ec_cert_text.specs.Text.{certificate_text}
use Rattle.ec_checker.specs.Certified.{IsCertified}
use Rattle.ec_checker.specs.declared.fault.Verdict.TheVariants as verdict
use Rattle.ec_outcome.specs.declared.search.Outcome.{Outcome}
use Rattle.ec_outcome.specs.declared.search.Outcome.TheVariants as outcome
use Rattle.ec_outcome.specs.declared.search.SolveFault.{SolveFault}
use Rattle.ec_workers.specs.Answers.{Asked, asked_beyond, GoesBeyond, HasLevelFrom, HasRules, IsNoDearer, IsOutcome, IsSolveFault, HasOrder, HasSearchOrder, is_strong, KeepsToPart}
use Rattle.ec_workers.specs.Outcomes.{partial_for, Shows}
use Rattle.ec_cli_refusals.specs.declared.refusal.Refusal.{Refusal}
use Rattle.ec_cli_refusals.specs.declared.refusal.Refusal.TheVariants as refusal
use Rattle.ec_cli_inputs.specs.Input.{AnswersUnits}
use Rattle.ec_cli_text.specs.Outcomes.{outcome_output, IsLevelOf}
use Rattle.ec_cli_text.specs.Output.{Written, refused}
use Rattle.ec_cli_refusals.specs.Refusals.{IsUnitsFault, out_of_memory, check_memory}
use Rattle.ec_cli_answers.specs.RightTexts.{IsWrongText}

-- the certificate that is written for an outcome of these units: its own, or that of a search without a proof, with its level
abbrev pub outcome_cert : Units → Outcome → Option ℕ → Option (List ℕ)
outcome_cert us (outcome.Optimal plan b cert) level = Some (certificate_text (cert_view cert))
outcome_cert us (outcome.NoPlan cert) level = Some (certificate_text (cert_view cert))
outcome_cert us (outcome.Unproved best order tree strong why) level =
    option_map (λ l. certificate_text (partial_for us.units us.slots strong order best l (shape_of tree))) level

-- ---- what comes of a search over the units that were read, and why nothing does

-- of a plan: what comes of a search over the units that the bytes say, which begins afresh, within this budget, in the order of a search and by the rules that were
-- asked for; where it is to keep the places of the units, and these are a legal plan, it finds none that costs more
pub record IsPlanOf (keep : Bool) (asked : Asked) (bytes : List ℕ) (us : Units) (o : Outcome) : Type 0 where
  pub read : AnswersUnits (Ok us) bytes
  pub answer : IsOutcome us.units us.slots asked o
  pub beyond : GoesBeyond open_leaf None asked.nodes o
  pub order : HasSearchOrder asked.strong (loads_of us.units) o
  pub rules : HasRules asked.strong o
  pub kept : keep ≡ true → IsNoDearer us.units us.slots o

-- why a search by so many workers over the units that bytes say has no outcome: they give no units, memory ran out over them, before the search or over the text
-- that is written, or the search has none: memory ran out before it began, or none of several workers could be started
abbrev pub IsSearchFault : ℕ → List ℕ → Refusal → Type 0
IsSearchFault workers bytes r =
    IsUnitsFault bytes r ⊎ ((r ≡ out_of_memory) ⊎ ((f : SolveFault) × (r ≡ refusal.Solve f) × IsSolveFault workers f))

abbrev pub IsPlanFault : Asked → List ℕ → Refusal → Type 0
IsPlanFault asked bytes r = IsSearchFault asked.workers bytes r

-- the outcome is a proof, and this is its certificate
abbrev pub IsProofBy : CertView → Outcome → Type 0
IsProofBy c (outcome.Optimal plan b cert) = cert_view cert ≡ c
IsProofBy c (outcome.NoPlan cert) = cert_view cert ≡ c
IsProofBy c (outcome.Unproved best order tree strong why) = ⊥

-- what comes of going on with a certificate to which the checker says yes: where it is a proof, that one; else what a search finds that goes on with its tree, in
-- its order of the units and by its rules, where new nodes alone are counted. Its tree grows from the certificate's, by the open leaves of the part alone. Its value is
-- at most that of the certificate, and what it shows of every plan is at least the certificate's level
pub record GoesOn (workers nodes : ℕ) (part : Part) (us : Units) (c : CertView) (o : Outcome) : Type 0 where
  pub right : IsCertified us.units us.slots c
  pub answer : IsOutcome us.units us.slots (asked_beyond (is_strong c) workers nodes c.tree part.count) o
  pub beyond : GoesBeyond c.tree (value_of c.best) nodes o
  pub others : KeepsToPart part c.tree o
  pub level : (l : ℕ) → c.level ≡ Some l → HasLevelFrom us.units us.slots l o
  pub proof : c.level ≡ None → IsProofBy c o
  pub order : HasOrder c.order o
  pub rules : HasRules (is_strong c) o

-- the same of the certificate that a text says
abbrev pub GoesOnFrom : ℕ → ℕ → Part → Units → List ℕ → Outcome → Type 0
GoesOnFrom workers nodes part us text o = (c : CertView) × (cert_reading text ≡ Ok c) × GoesOn workers nodes part us c o

-- and why nothing comes of it: memory ran out, the search has no outcome, or the text says no certificate to which the checker says yes
abbrev pub IsStoppedFrom : ℕ → Units → List ℕ → Refusal → Type 0
IsStoppedFrom workers us text r = (r ≡ out_of_memory) ⊎ (((f : SolveFault) × (r ≡ refusal.Solve f) × IsSolveFault workers f) ⊎ IsWrongText us text r)

-- of a resumed search: what comes of going on with the certificate that the text says, for the units that the bytes say
pub record IsResumeOf (workers nodes : ℕ) (part : Part) (bytes text : List ℕ) (us : Units) (o : Outcome) : Type 0 where
  pub read : AnswersUnits (Ok us) bytes
  pub cert : CertView
  pub said : cert_reading text ≡ Ok cert
  pub goes : GoesOn workers nodes part us cert o

-- why there is no outcome of it: as of a plan, or memory ran out over the room for the check, or the text says no certificate to which the checker says yes for the
-- units that the bytes say
abbrev pub IsResumeFault : ℕ → List ℕ → List ℕ → Refusal → Type 0
IsResumeFault workers bytes text r = IsSearchFault workers bytes r ⊎ ((r ≡ check_memory) ⊎ ((us : Units) × AnswersUnits (Ok us) bytes × IsWrongText us text r))

-- ---- what is written for it

-- the certificate of a search without a proof is one to which the checker says yes with its level
abbrev pub IsShownAt : Units → Outcome → Option ℕ → Type 0
IsShownAt us (outcome.Optimal plan b cert) level = Unit {0}
IsShownAt us (outcome.NoPlan cert) level = Unit {0}
IsShownAt us (outcome.Unproved best order tree strong why) level =
    (l : ℕ) × (level ≡ Some l) × Shows us.units us.slots (partial_for us.units us.slots strong order best l (shape_of tree)) (verdict.AtLeast l)

-- written is the text of an outcome, and this is its certificate
pub record IsOutcomeWritten (is : Units → Outcome → Type 0) (w : Written) (cert : Option (List ℕ)) : Type 0 where
  pub units : Units
  pub found : Outcome
  pub answer : is units found
  pub level : Option ℕ
  pub shown : IsLevelOf units.units units.slots found level
  pub text : w ≡ outcome_output units.units found level
  pub certificate : cert ≡ outcome_cert units found level
  pub shows : IsShownAt units found level

-- written is the line that says why there is no outcome, or that memory ran out over it, and no certificate
pub record IsUnplanned (fault : Refusal → Type 0) (w : Written) (cert : Option (List ℕ)) : Type 0 where
  pub refusal : Refusal
  pub why : fault refusal
  pub line : w ≡ refused refusal
  pub certificate : cert ≡ None

-- what is written for a search, and the certificate that is written before it
abbrev pub IsSearchWritten : (Units → Outcome → Type 0) → (Refusal → Type 0) → Written → Option (List ℕ) → Type 0
IsSearchWritten is fault w cert = IsOutcomeWritten is w cert ⊎ IsUnplanned fault w cert

-- for the bytes of units
abbrev pub IsPlanWritten : Bool → Asked → List ℕ → Written → Option (List ℕ) → Type 0
IsPlanWritten keep asked bytes w cert = IsSearchWritten (IsPlanOf keep asked bytes) (IsPlanFault asked bytes) w cert

-- for the bytes of units and the text of a certificate
abbrev pub IsResumeWritten : ℕ → ℕ → Part → List ℕ → List ℕ → Written → Option (List ℕ) → Type 0
IsResumeWritten workers nodes part bytes text w cert = IsSearchWritten (IsResumeOf workers nodes part bytes text) (IsResumeFault workers bytes text) w cert

-- a writer gets a certificate; where there is none it is left as it was
abbrev pub Gets : {O : Type 0} → (O → Option (List ℕ)) → Io O → Io O → Option (List ℕ) → Type 0
Gets contents old new None = new ≡ old
Gets contents old new (Some bytes) = Appends (contents (stream old)) (contents (stream new)) bytes

-- it gets a front of it, or is left as it was
abbrev pub GetsFront : {O : Type 0} → (O → Option (List ℕ)) → Io O → Io O → Option (List ℕ) → Type 0
GetsFront contents old new None = new ≡ old
GetsFront contents old new (Some bytes) = WritesFront (contents (stream old)) (contents (stream new)) bytes
