-- What the answers of a check and of a plan are worth.
use Rattle.std.specs.Prelude.{◌≡◌, ◌≢◌, ◌⊎◌, ℕ, ◌≤◌, Bool, List, ◌++◌, Option, Some, None, Ok, IfSome}
use Rattle.ec_cli_inputs.specs.Use.{Use, before, IsSound, Lent, IfLent}
use Rattle.ec_units.specs.declared.slave.Place.{Place}
use Rattle.ec_units.specs.declared.units.Units.{Units}
use Rattle.ec_units.specs.Load.{loads_of}
use Rattle.ec_unit_text.specs.Reading.{reading}
use Rattle.ec_units.specs.Views.{UnitsView, units_view, view_loads}
use Rattle.ec_loads.specs.Cost.{plan_items, IsBusiest}
use Rattle.ec_loads.specs.Legal.{IsLegal}
use Rattle.ec_loads.specs.Search.{BoundsAll, IsLeast, HasNoPlan}
use Rattle.ec_cert.specs.declared.cert.Best.{Best}
use Rattle.ec_cert.specs.declared.part.Part.{Part}
use Rattle.ec_cert.specs.IsBestPlan.{IsBestPlan}
use Rattle.ec_cert.specs.Shapes.{CertView}
use Rattle.ec_cert_text.specs.Text.{certificate_text}
use Rattle.ec_checker.specs.declared.fault.Verdict.{Verdict}
use Rattle.ec_checker.specs.declared.fault.Verdict.TheVariants as verdict
use Rattle.ec_outcome.specs.declared.search.Cut.{Cut}
use Rattle.ec_workers.specs.Answers.{Asked}
use Rattle.ec_workers.specs.Outcomes.{Shows}
use Rattle.ec_cli_answers.specs.Merged.{IsMergeWritten}
use Rattle.ec_cli_answers.specs.Planned.{Gets, IsPlanWritten, IsResumeWritten}
use Rattle.ec_cli_command.specs.declared.job.Job.{Job}
use Rattle.ec_cli_command.specs.declared.job.Job.TheVariants as job
use Rattle.ec_cli_text.specs.Framed.{IsCaptureFor, IsCaptured}
use Rattle.ec_cli_text.specs.Lines.{cut_line, least_line, level_line, no_plan_line, optimal_line, unproved_line}
use Rattle.ec_cli_text.specs.Outcomes.{optimal_text, unproved_text}
use Rattle.ec_cli_text.specs.Output.{Written, IsOutput}
use Rattle.ec_cli_run.specs.Runs.{DoesWith, Tells}

-- `least b` is written, and it is true of the units that the bytes say
pub record TellsLeast (bytes : List ℕ) (w : Written) : Type 0 where
  pub units : UnitsView
  pub said : reading bytes ≡ Ok units
  pub busiest : ℕ
  pub line : w.text ≡ least_line busiest
  pub least : IsLeast (view_loads units.units) units.slots busiest

-- `no plan` is written, and it is true of the units that the bytes say
pub record TellsNoPlan (bytes : List ℕ) (w : Written) : Type 0 where
  pub units : UnitsView
  pub said : reading bytes ≡ Ok units
  pub line : w.text ≡ no_plan_line
  pub none : HasNoPlan (view_loads units.units) units.slots

-- `at least l` is written, and it is true of the units that the bytes say: every legal plan has a tick that costs at least l
pub record TellsAtLeast (bytes : List ℕ) (w : Written) : Type 0 where
  pub units : UnitsView
  pub said : reading bytes ≡ Ok units
  pub level : ℕ
  pub line : w.text ≡ level_line level
  pub bounds : BoundsAll (view_loads units.units) units.slots (Some level)

-- a status that is 0, 1 or 2 says so much
abbrev pub ByStatus : ℕ → Type 0 → Type 0 → Type 0 → Type 0
ByStatus code A B C = (code ≡ 0 → A) × (code ≡ 1 → B) × (code ≡ 2 → C)

-- a check that ends with status 0, 1 or 2 tells the truth
abbrev pub YesTellsTruth : List ℕ → Written → Type 0
YesTellsTruth bytes w = ByStatus w.code (TellsLeast bytes w) (TellsNoPlan bytes w) (TellsAtLeast bytes w)

-- whatever the certificate holds
abbrev pub YesIsTrue : Type 0
YesIsTrue = (bytes cert : List ℕ) (w : Written) → IsOutput job.Check bytes (Some cert) w → YesTellsTruth bytes w

-- what is written is a function of the bytes that are read
abbrev pub OneOutputEach : Type 0
OneOutputEach = (j : Job) (bytes : List ℕ) (cert : Option (List ℕ)) (a b : Written) → IsOutput j bytes cert a → IsOutput j bytes cert b → a ≡ b

-- the capture file of frames is a function of the bytes that are read
abbrev pub OneCaptureEach : Type 0
OneCaptureEach = (cert : Option (List ℕ)) (bytes : List ℕ) (a b : List ℕ) → IsCaptureFor cert bytes a → IsCaptureFor cert bytes b → a ≡ b

-- the text that is written with it is that of frames alone
abbrev pub CaptureTellsFrames : Type 0
CaptureTellsFrames = (cert : Option (List ℕ)) (bytes : List ℕ) (w : Written) (file : List ℕ) → IsCaptured cert bytes w file → IsOutput job.Frames bytes cert w

-- the certificate that is written is one of these units, to which the checker says yes with this verdict
abbrev pub IsShownBy : Units → Verdict → Option (List ℕ) → Type 0
IsShownBy us v cert = (c : CertView) × (cert ≡ Some (certificate_text c)) × Shows us.units us.slots c v

-- `optimal b` and a line for each unit are written, and they are true of the units that the bytes say: the plan of these lines is legal and busiest
-- at b, every legal plan has a tick that costs at least b, and the certificate that is written before shows it
pub record TellsOptimal (bytes : List ℕ) (w : Written) (cert : Option (List ℕ)) : Type 0 where
  pub units : Units
  pub said : reading bytes ≡ Ok (units_view units)
  pub busiest : ℕ
  pub plan : List Place
  pub lines : w.text ≡ optimal_text units.units plan busiest
  pub legal : IsLegal (loads_of units.units) units.slots plan
  pub exact : IsBusiest (plan_items (loads_of units.units) plan) units.slots busiest
  pub bounds : BoundsAll (loads_of units.units) units.slots (Some busiest)
  pub shown : IsShownBy units (verdict.Least busiest) cert

-- `no plan` is written, it is true of the units that the bytes say, and the certificate that is written before shows it
pub record TellsWithoutPlan (bytes : List ℕ) (w : Written) (cert : Option (List ℕ)) : Type 0 where
  pub units : Units
  pub said : reading bytes ≡ Ok (units_view units)
  pub line : w.text ≡ no_plan_line
  pub none : HasNoPlan (loads_of units.units) units.slots
  pub shown : IsShownBy units verdict.NoPlan cert

-- `unproved` with why the search ended, `at least l` and a line for each unit of the best plan, if any, are written, and they are true of the units that the bytes
-- say: that plan is legal and costs what is stated, every legal plan has a tick that costs at least l, and the certificate that is written before shows that
pub record TellsUnproved (bytes : List ℕ) (w : Written) (cert : Option (List ℕ)) : Type 0 where
  pub units : Units
  pub said : reading bytes ≡ Ok (units_view units)
  pub best : Option Best
  pub why : Cut
  pub level : ℕ
  pub lines : w.text ≡ unproved_text units.units best why (Some level)
  pub legal : IsBestPlan (loads_of units.units) units.slots best
  pub bounds : BoundsAll (loads_of units.units) units.slots (Some level)
  pub shown : IsShownBy units (verdict.AtLeast level) cert

-- a search that ends with status 0, 1 or 2 tells the truth
abbrev pub TellsTruth : List ℕ → Written → Option (List ℕ) → Type 0
TellsTruth bytes w cert = ByStatus w.code (TellsOptimal bytes w cert) (TellsWithoutPlan bytes w cert) (TellsUnproved bytes w cert)

-- whatever workers and nodes were asked for, and whether or not it keeps places
abbrev pub PlanIsTrue : Type 0
PlanIsTrue = (keep : Bool) (asked : Asked) (bytes : List ℕ) (w : Written) (cert : Option (List ℕ)) → IsPlanWritten keep asked bytes w cert → TellsTruth bytes w cert

-- and whatever certificate it went on with
abbrev pub ResumeIsTrue : Type 0
ResumeIsTrue =
    (workers nodes : ℕ) (part : Part) (bytes text : List ℕ) (w : Written) (cert : Option (List ℕ)) → IsResumeWritten workers nodes part bytes text w cert → TellsTruth bytes w cert

-- ---- what a run tells is true

-- what a search tells is true of the units that were read; and where it tells of them, the file is the one that the writer gets, if there is one
abbrev pub SearchIsTrue : {R O : Type 0} → Use R → Lent O → Written → Type 0
SearchIsTrue units out w = IsSound units → IfSome (before units) (λ bytes. (file : Option (List ℕ)) × TellsTruth bytes w file
    × (w.code ≤ 2 → IfLent out (Unit {0}) (λ o. IsSound o → Gets o.tells o.old o.new file)))

-- what a search and a check tell is true, whatever a certificate holds that they read; the other jobs claim nothing of other plans
abbrev pub RunIsTrue : {R O : Type 0} → Job → Use R → Lent O → Written → Type 0
RunIsTrue (job.Plan workers nodes strong keep) units out w = SearchIsTrue units out w
RunIsTrue (job.Resume workers nodes part) units out w = SearchIsTrue units out w
RunIsTrue job.Check units out w = IsSound units → IfSome (before units) (λ bytes. YesTellsTruth bytes w)
RunIsTrue _ units out w = Unit {0}

-- a run does its job, and what it tells is true
abbrev pub IsRun : {R C W O : Type 0} → Job → Use R → Lent C → Use W → Lent O → ℕ → Type 0
IsRun j units cert text out code = Tells (λ w. DoesWith j units cert out w × RunIsTrue j units out w) text code

-- the same of a command line, of whose file nothing is known
abbrev pub LineIsTrue : {R : Type 0} → Job → Use R → Written → Type 0
LineIsTrue (job.Plan workers nodes strong keep) units w = IsSound units → IfSome (before units) (λ bytes. (file : Option (List ℕ)) × TellsTruth bytes w file)
LineIsTrue (job.Resume workers nodes part) units w = IsSound units → IfSome (before units) (λ bytes. (file : Option (List ℕ)) × TellsTruth bytes w file)
LineIsTrue job.Check units w = IsSound units → IfSome (before units) (λ bytes. YesTellsTruth bytes w)
LineIsTrue _ units w = Unit {0}

-- ---- two outputs agree

-- a text begins with the line `optimal b`
abbrev pub BeginsOptimal : ℕ → Written → Type 0
BeginsOptimal b w = (rest : List ℕ) × (w.text ≡ optimal_line b ++ rest)

-- written is what a search over the units that the bytes say tells, begun or resumed, whatever was asked for and whatever it went on with; or what is told of some
-- certificates for them that were merged
abbrev pub IsSearchTold : List ℕ → Written → Type 0
IsSearchTold bytes w =
    ((keep : Bool) × (asked : Asked) × (cert : Option (List ℕ)) × IsPlanWritten keep asked bytes w cert)
    ⊎ (((workers : ℕ) × (nodes : ℕ) × (part : Part) × (text : List ℕ) × (cert : Option (List ℕ)) × IsResumeWritten workers nodes part bytes text w cert)
    ⊎ ((cert : Option (List ℕ)) × IsMergeWritten bytes w cert))

-- two searches over the same bytes that end with status 0 name one cost; and where one ends so, none ends with status 1
abbrev pub OneLeastEach : Type 0
OneLeastEach =
    (bytes : List ℕ) (v w : Written) → IsSearchTold bytes v → IsSearchTold bytes w → v.code ≡ 0 →
    (w.code ≡ 0 → (b : ℕ) × BeginsOptimal b v × BeginsOptimal b w) × (w.code ≢ 1)

-- written is what a search or a check of some certificate tells of the units that the bytes say
abbrev pub IsAnswer : List ℕ → Written → Type 0
IsAnswer bytes w = IsSearchTold bytes w ⊎ ((cert : List ℕ) × IsOutput job.Check bytes (Some cert) w)

-- it ends with the status of a proof with a plan, or of a search or a check without a proof
abbrev pub HasClaim : Written → Type 0
HasClaim w = (w.code ≡ 0) ⊎ (w.code ≡ 2)

-- the text claims that a legal plan costs so much, if it tells of one, and that every legal plan has a tick that costs at least so much: `optimal b` or `least b`
-- claims both of b, `unproved v` with `at least l` claims v and l, and `at least l` of a check claims l alone
abbrev pub Claims : Written → Option ℕ → ℕ → Type 0
Claims w plan bound =
    ((rest : List ℕ) × (w.text ≡ optimal_line bound ++ rest) × (plan ≡ Some bound))
    ⊎ (((w.text ≡ least_line bound) × (plan ≡ Some bound))
    ⊎ (((w.text ≡ level_line bound) × (plan ≡ None))
    ⊎ ((why : Cut) × (rest : List ℕ) × (w.text ≡ unproved_line plan ++ (cut_line why ++ (level_line bound ++ rest))))))

-- no plan that one answer claims costs less than the other claims of every plan
pub record AgreeWith (v w : Written) : Type 0 where
  pub plan : Option ℕ
  pub bound : ℕ
  pub other_plan : Option ℕ
  pub other_bound : ℕ
  pub claims : Claims v plan bound
  pub other_claims : Claims w other_plan other_bound
  pub above : IfSome plan (λ b. other_bound ≤ b)
  pub other_above : IfSome other_plan (λ b. bound ≤ b)

-- answers over the same bytes agree; and where one is `no plan`, none ends with status 0, and none claims a plan
abbrev pub AnswersAgree : Type 0
AnswersAgree =
    (bytes : List ℕ) (v w : Written) → IsAnswer bytes v → IsAnswer bytes w →
    (HasClaim v → HasClaim w → AgreeWith v w) × (v.code ≡ 1 → HasClaim w → (bound : ℕ) × Claims w None bound)
