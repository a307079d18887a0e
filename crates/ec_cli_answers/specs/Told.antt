-- What a job tells for what it has read: a text with its status, the file that is written before it, and what is handed on beside both.
use Rattle.std.specs.Prelude.{◌≡◌, ◌⊎◌, ℕ, List, Option, Some, None, Result, Ok, Err, IfOk, option_map}
use Rattle.ec_cert.specs.Shapes.{CertView, cert_view}
use Rattle.ec_loads.specs.declared.plan.Plan.{Plan}
use Rattle.ec_outcome.specs.declared.ending.Ending.{Ending}
use Rattle.ec_outcome.specs.declared.search.Outcome.{Outcome}
use Rattle.ec_outcome.specs.declared.search.Outcome.TheVariants as outcome
use Rattle.ec_cert.specs.WellFormed.{IsWellFormed}
use Rattle.ec_cert_text.specs.Text.{certificate_text}
use Rattle.ec_cert_text.specs.Reading.{reading as cert_reading}
use Rattle.ec_checker.specs.Certified.{verdict_of}
use Rattle.ec_checker.specs.declared.fault.Verdict.{Verdict}
use Rattle.ec_unit_text.specs.Reading.{reading}
use Rattle.ec_cli_text.specs.Plans.{IsFramedPlan}
use Rattle.ec_cli_refusals.specs.declared.refusal.Refusal.{Refusal}
use Rattle.ec_cli_command.specs.declared.job.Job.{Job}
use Rattle.ec_cli_command.specs.declared.job.Job.TheVariants as job
use Rattle.ec_units.specs.declared.slave.Place.{Place}
use Rattle.ec_units.specs.declared.units.Units.{Units}
use Rattle.ec_units.specs.Views.{UnitsView}
use Rattle.ec_frame_text.specs.Lines.{IsFramesText}
use Rattle.ec_frame_text.specs.Captures.{IsCapture}
use Rattle.ec_play_text.specs.Plays.{IsPlayText}
use Rattle.ec_cli_refusals.specs.Refusals.{IsFramesMemory}
use Rattle.ec_cli_text.specs.declared.answer.Answer.{Answer}
use Rattle.ec_workers.specs.Answers.{asked_for}
use Rattle.ec_cli_text.specs.Output.{Written, Answers, IsCostsText, IsOutput, IsNoMemory, refused, shown, written_of}
use Rattle.ec_cli_answers.specs.Captures.{IsFramesWritten}
use Rattle.ec_cli_text.specs.Outcomes.{IsLevelOf, outcome_output}
use Rattle.ec_cli_answers.specs.Planned.{IsPlanOf, IsPlanWritten, IsResumeOf, IsResumeWritten, IsShownAt, outcome_cert}
use Rattle.ec_cli_answers.specs.declared.told.File.{File}
use Rattle.ec_cli_answers.specs.declared.told.File.TheVariants as file
use Rattle.ec_cli_answers.specs.declared.told.Told.{Told}

-- the bytes of a file, if there is one
abbrev pub file_bytes : File → Option (List ℕ)
file_bytes file.Nothing = None
file_bytes (file.Cert c) = Some (certificate_text (cert_view c))
file_bytes (file.Capture bytes) = Some bytes.items

-- a certificate has a text
abbrev pub HasText : File → Type 0
HasText file.Nothing = Unit {0}
HasText (file.Cert c) = IsWellFormed (cert_view c)
HasText (file.Capture bytes) = Unit {0}

-- the places of the plan of a certificate, else of the other plan
abbrev pub plan_of : File → Option Plan → Option (List Place)
plan_of file.Nothing plan = option_map (λ p. p.places) plan
plan_of (file.Cert c) plan = option_map (λ b. b.plan.places) c.best
plan_of (file.Capture bytes) plan = option_map (λ p. p.places) plan

-- how a search ended without a proof, at the level that its tree shows
abbrev pub ending_of : Outcome → Option ℕ → Option Ending
ending_of (outcome.Optimal plan b cert) level = None
ending_of (outcome.NoPlan cert) level = None
ending_of (outcome.Unproved best order tree strong why) level = option_map (λ l. record { best = option_map (λ b. b.busiest) best; cut = why; level = l; strong = strong }) level

-- what is written for what a job answers
abbrev pub told : Result Told Refusal → Written
told (Ok t) = shown t.answer
told (Err r) = refused r

-- and its file
abbrev pub file_of : Result Told Refusal → Option (List ℕ)
file_of (Ok t) = file_bytes t.file
file_of (Err r) = None

-- the places of the plan of which is told, if there is one: of a search that of its certificate
abbrev pub plan_told : Told → Option (List Place)
plan_told t = plan_of t.file t.plan

-- no certificate is written
abbrev pub HasNoCert : File → Type 0
HasNoCert file.Nothing = Unit {0}
HasNoCert (file.Cert c) = ⊥
HasNoCert (file.Capture bytes) = Unit {0}

-- ---- what is handed on beside the text

-- the places of the best plan of an outcome, if it has one
abbrev pub plan_in : Outcome → Option (List Place)
plan_in (outcome.Optimal plan b cert) = Some plan.places
plan_in (outcome.NoPlan cert) = None
plan_in (outcome.Unproved best order tree strong why) = option_map (λ b. b.plan.places) best

-- with the text of an outcome and its certificate its best plan and, where it ended without a proof, how it did
pub record HandsOutcome (is : Units → Outcome → Type 0) (t : Told) : Type 0 where
  pub units : Units
  pub found : Outcome
  pub answer : is units found
  pub level : Option ℕ
  pub is_level : IsLevelOf units.units units.slots found level
  pub text : shown t.answer ≡ outcome_output units.units found level
  pub file : file_bytes t.file ≡ outcome_cert units found level
  pub plan : plan_told t ≡ plan_in found
  pub ending : t.ending ≡ ending_of found level
  pub verdict : t.verdict ≡ None

-- what the checker says of the certificate that a text says, where there is one
abbrev pub IsSaidOf : Option (List ℕ) → Option Verdict → Type 0
IsSaidOf None verdict = verdict ≡ None
IsSaidOf (Some text) verdict = (c : CertView) × (cert_reading text ≡ Ok c) × (verdict ≡ Some (verdict_of c.best c.level))

-- with the text of a plan this plan, and what the checker said of its certificate
pub record HandsPlan (cert : Option (List ℕ)) (bytes : List ℕ) (t : Told) : Type 0 where
  pub units : UnitsView
  pub said : reading bytes ≡ Ok units
  pub places : List Place
  pub framed : IsFramedPlan cert units places
  pub plan : plan_told t ≡ Some places
  pub ending : t.ending ≡ None
  pub verdict : IsSaidOf cert t.verdict

-- with a verdict no plan, no ending and no verdict on another plan's certificate
pub record HandsNothing (t : Told) : Type 0 where
  pub plan : plan_told t ≡ None
  pub ending : t.ending ≡ None
  pub verdict : t.verdict ≡ None

-- what a job hands on for the bytes of units, and of a certificate where there is one
abbrev pub HandsOn : Job → List ℕ → Option (List ℕ) → Told → Type 0
HandsOn (job.Plan workers nodes strong keep) bytes cert t = HandsOutcome (IsPlanOf keep (asked_for strong workers nodes) bytes) t
HandsOn (job.Resume workers nodes part) bytes None t = ⊥
HandsOn (job.Resume workers nodes part) bytes (Some text) t = HandsOutcome (IsResumeOf workers nodes part bytes text) t
HandsOn job.Check bytes cert t = HandsNothing t
HandsOn j bytes cert t = HandsPlan cert bytes t

-- ---- what a job tells

-- a job without a file tells what is written for the bytes, or that memory ran out
abbrev pub IsPlainTold : Job → List ℕ → Option (List ℕ) → Written → Option (List ℕ) → Type 0
IsPlainTold j bytes cert w file = (IsOutput j bytes cert w ⊎ IsNoMemory j w) × (file ≡ None)

-- what is told of a job for the bytes of units, and of a certificate where there is one
abbrev pub IsTold : Job → List ℕ → Option (List ℕ) → Written → Option (List ℕ) → Type 0
IsTold (job.Plan workers nodes strong keep) bytes cert w file = IsPlanWritten keep (asked_for strong workers nodes) bytes w file
IsTold (job.Resume workers nodes part) bytes None w file = ⊥
IsTold (job.Resume workers nodes part) bytes (Some text) w file = IsResumeWritten workers nodes part bytes text w file
IsTold job.Capture bytes cert w file = IsFramesWritten cert bytes w file
IsTold j bytes cert w file = IsPlainTold j bytes cert w file

-- an answer is as said of what is written and of the file before it, and has that file; what it hands on is as said, too
pub record TellsBy (said : Written → Option (List ℕ) → Type 0) (Hands : Told → Type 0) (answer : Result Told Refusal) : Type 0 where
  pub file : Option (List ℕ)
  pub is : said (told answer) file
  pub made : file_of answer ≡ file
  pub handed : IfOk answer Hands

-- an answer is what is told for these bytes, has the file that is told, and hands on what goes with them
abbrev pub TellsFor : Job → List ℕ → Option (List ℕ) → Result Told Refusal → Type 0
TellsFor j bytes cert answer = TellsBy (IsTold j bytes cert) (HandsOn j bytes cert) answer

-- its certificate has a text
abbrev pub IsWritable : Result Told Refusal → Type 0
IsWritable answer = IfOk answer (λ t. HasText t.file)

-- what is told is the text of the outcome of a search and its certificate, at a level that its tree shows, with its best plan and how it ended
pub record IsOutcomeTold (us : Units) (o : Outcome) (t : Told) : Type 0 where
  pub level : Option ℕ
  pub is_level : IsLevelOf us.units us.slots o level
  pub text : shown t.answer ≡ outcome_output us.units o level
  pub file : file_bytes t.file ≡ outcome_cert us o level
  pub shows : IsShownAt us o level
  pub plan : plan_told t ≡ plan_in o
  pub ending : t.ending ≡ ending_of o level
  pub verdict : t.verdict ≡ None

-- ---- what is told of a plan

-- an answer without a file is the text of the plan, or says what was wanting
abbrev pub IsTextTold : Job → (UnitsView → List Place → List ℕ → Type 0) → UnitsView → List Place → Result Told Refusal → Type 0
IsTextTold j IsText v places answer =
    (a : Result Answer Refusal) × (told answer ≡ written_of a) × (file_of answer ≡ None) × Answers j a (λ w. IsText v places w.text × (w.code ≡ 0))

-- an answer has the text of the frames of the plan, and these frames as its file, or says that memory ran out
abbrev pub IsCaptureTold : UnitsView → List Place → Result Told Refusal → Type 0
IsCaptureTold v places (Ok t) =
    (bytes : List ℕ) × (file_bytes t.file ≡ Some bytes) × IsCapture v places bytes × IsFramesText v places (shown t.answer).text × ((shown t.answer).code ≡ 0)
IsCaptureTold v places (Err r) = IsFramesMemory r

abbrev pub IsPlanTold : Job → UnitsView → List Place → Result Told Refusal → Type 0
IsPlanTold job.Capture v places answer = IsCaptureTold v places answer
IsPlanTold job.Cost v places answer = IsTextTold job.Cost IsCostsText v places answer
IsPlanTold job.Play v places answer = IsTextTold job.Play IsPlayText v places answer
IsPlanTold job.PlanCost v places answer = IsTextTold job.Cost IsCostsText v places answer
IsPlanTold _ v places answer = IsTextTold job.Frames IsFramesText v places answer

-- ---- what a job reads

-- the job tells of a plan
abbrev pub IsOfPlan : Job → Type 0
IsOfPlan job.Cost = Unit {0}
IsOfPlan job.Frames = Unit {0}
IsOfPlan job.Capture = Unit {0}
IsOfPlan job.Play = Unit {0}
IsOfPlan job.PlanCost = Unit {0}
IsOfPlan _ = ⊥

-- a cost and a plan read no certificate; a check, the cost of a plan and a resumed search read one; frames and a play may
abbrev pub HasInput : Job → Option (List ℕ) → Type 0
HasInput job.Cost cert = cert ≡ None
HasInput (job.Plan workers nodes strong keep) cert = cert ≡ None
HasInput job.Frames cert = Unit {0}
HasInput job.Capture cert = Unit {0}
HasInput job.Play cert = Unit {0}
HasInput j None = ⊥
HasInput j (Some text) = Unit {0}
