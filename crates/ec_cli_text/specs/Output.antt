-- What the program writes for what it reads.
use Rattle.std.specs.Prelude.{◌≡◌, ◌≢◌, ℕ, ◌≤◌, ◌⊎◌, List, length, Option, Result, Ok, Err, MatchResult, string_bytes}
use Rattle.std.proofs.Common.{Some, None}
use Rattle.ec_hyper.specs.Lcm.{lcm_of}
use Rattle.ec_units.specs.declared.slave.Place.{Place}
use Rattle.ec_units.specs.declared.unit.Unit.{Unit as SyncUnit}
use Rattle.ec_units.specs.declared.units.Units.{Units}
use Rattle.ec_units.specs.Load.{periods_of}
use Rattle.ec_unit_text.specs.Reading.{reading}
use Rattle.ec_units.specs.Views.{UnitsView, units_view, view_loads}
use Rattle.ec_loads.specs.declared.item.Item.{Item}
use Rattle.ec_loads.specs.Cost.{plan_items, tick_cost, IsFirstBusiest}
use Rattle.ec_cert_text.specs.Reading.{reading as cert_reading}
use Rattle.ec_cert.specs.Shapes.{CertView}
use Rattle.ec_checker.specs.declared.fault.CheckFault.{CheckFault}
use Rattle.ec_checker.specs.declared.fault.CheckFault.TheVariants as check
use Rattle.ec_checker.specs.declared.fault.Verdict.{Verdict}
use Rattle.ec_checker.specs.declared.fault.Verdict.TheVariants as verdict
use Rattle.ec_checker.specs.Certified.{IsCertified, IsFaultOf, verdict_of}
use Rattle.ec_frame_text.specs.Lines.{IsFramesText}
use Rattle.ec_play_text.specs.Plays.{IsPlayText}
use Rattle.ec_cli_text.specs.declared.answer.Answer.{Answer}
use Rattle.ec_cli_refusals.specs.declared.refusal.Refusal.{Refusal}
use Rattle.ec_cli_refusals.specs.declared.refusal.Refusal.TheVariants as refusal
use Rattle.ec_cli_command.specs.declared.job.Job.{Job}
use Rattle.ec_cli_command.specs.declared.job.Job.TheVariants as job
use Rattle.ec_cli_text.specs.Lines.{cost_lines, least_line, level_line, no_plan_line}
use Rattle.ec_cli_refusals.specs.Refusals.{refusal_line, refusal_code, IsMemory, IsUnitsFault}
use Rattle.ec_cli_text.specs.Plans.{IsFramedPlan, IsPlanless}

-- a text and the exit status
pub record Written : Type 0 where
  pub text : List ℕ
  pub code : ℕ

-- a refusal is its one line with its status
abbrev pub refused : Refusal → Written
refused r = record { text = refusal_line r; code = refusal_code r }

-- a text with status 0
abbrev pub done : List ℕ → Written
done text = record { text = text; code = 0 }

-- the text of a cost: the busiest tick in it is the busiest of all ticks, and the first that is
pub record IsCostText (xs : List Item) (n h tick_ns : ℕ) (text : List ℕ) : Type 0 where
  pub top : ℕ
  pub at : ℕ
  pub busiest : IsFirstBusiest xs n top at
  pub lines : text ≡ cost_lines (tick_cost xs n) h top at tick_ns

-- the text of the costs of units at these places
abbrev pub IsCostsText : UnitsView → List Place → List ℕ → Type 0
IsCostsText v places text =
    IsCostText (plan_items (view_loads v.units) places) v.slots (lcm_of (periods_of (view_loads v.units))) v.tick_ns text

-- what is written for a verdict, which has the status 1 where no plan is legal, and 2 where no more than a level is shown
abbrev pub verdict_output : Verdict → Written
verdict_output (verdict.Least b) = done (least_line b)
verdict_output verdict.NoPlan = record { text = no_plan_line; code = 1 }
verdict_output (verdict.AtLeast level) = record { text = level_line level; code = 2 }

-- what is written for these units and a certificate: its verdict where it is certified, or its first fault
abbrev pub IsCheckedOf : List SyncUnit → ℕ → CertView → Written → Type 0
IsCheckedOf units n c w =
    (IsCertified units n c × (w ≡ verdict_output (verdict_of c.best c.level)))
    ⊎ ((f : CheckFault) × (f ≢ check.OutOfMemory) × IsFaultOf units n c f × (w ≡ refused (refusal.Check f)))

-- the same of units as plain data
abbrev pub IsCheckedOutput : UnitsView → CertView → Written → Type 0
IsCheckedOutput v c w = (us : Units) × (units_view us ≡ v) × IsCheckedOf us.units us.slots c w

-- what is written for units and a certificate's text
abbrev pub IsCheckOutput : UnitsView → List ℕ → Written → Type 0
IsCheckOutput v text w = MatchResult (cert_reading text) (λ c. IsCheckedOutput v c w) (λ f. w ≡ refused (refusal.Cert f))

-- what is written of a plan: such a text of the plan of which is told, or why there is none
abbrev pub IsTextFor : (UnitsView → List Place → List ℕ → Type 0) → Option (List ℕ) → UnitsView → Written → Type 0
IsTextFor IsText cert v w =
    ((places : List Place) × IsFramedPlan cert v places × IsText v places w.text × (w.code ≡ 0))
    ⊎ ((r : Refusal) × IsPlanless cert v r × (w ≡ refused r))

-- what a job that searches for nothing writes for units, and for the bytes of a certificate where it reads one
abbrev pub IsUnitsOutput : Job → Option (List ℕ) → UnitsView → Written → Type 0
IsUnitsOutput job.Cost cert v w = IsTextFor IsCostsText None v w
IsUnitsOutput (job.Plan workers nodes strong keep) cert v w = ⊥
IsUnitsOutput (job.Resume workers nodes part) cert v w = ⊥
IsUnitsOutput job.Check None v w = ⊥
IsUnitsOutput job.Check (Some text) v w = IsCheckOutput v text w
IsUnitsOutput job.Frames cert v w = IsTextFor IsFramesText cert v w
IsUnitsOutput job.Capture cert v w = IsTextFor IsFramesText cert v w
IsUnitsOutput job.Play cert v w = IsTextFor IsPlayText cert v w
IsUnitsOutput job.PlanCost cert v w = IsTextFor IsCostsText cert v w

-- what is written for the bytes of units and of a certificate that readers have
abbrev pub IsOutput : Job → List ℕ → Option (List ℕ) → Written → Type 0
IsOutput j bytes cert w =
    ((v : UnitsView) × (length bytes ≤ 1048576) × (reading bytes ≡ Ok v) × IsUnitsOutput j cert v w)
    ⊎ ((r : Refusal) × IsUnitsFault bytes r × (w ≡ refused r))

-- an answer is written as it stands
abbrev pub shown : Answer → Written
shown a = record { text = string_bytes a.text; code = a.code }

-- an answer, which may be want of memory, is as a fact about what is written says
abbrev pub Answers : Job → Result Answer Refusal → (Written → Type 0) → Type 0
Answers j (Ok a) P = P (shown a)
Answers j (Err r) P = IsMemory j r ⊎ P (refused r)

-- what an answer makes the program write
abbrev pub written_of : Result Answer Refusal → Written
written_of (Ok a) = shown a
written_of (Err r) = refused r

-- the line that says that memory ran out
abbrev pub IsNoMemory : Job → Written → Type 0
IsNoMemory j w = (r : Refusal) × IsMemory j r × (w ≡ refused r)
