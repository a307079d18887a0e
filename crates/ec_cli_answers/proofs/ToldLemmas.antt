-- From what is answered for the inputs to what is told for the bytes that they were read of.
-- A job without a file goes by `simple_writes`, a job that tells of a plan by `plan_writes` and `fault_tells`; `unread_tells` is for all jobs where there are no inputs.
use Rattle.std.proofs.Common.{◌≡◌, ◌∙◌, ℕ, Bool, List, Option, Some, None, Result, Ok, Err, refl, sym, ap, subst, inl, inr}
use Rattle.std.specs.Prelude.{◌⊎◌, ◌≤◌, length, IfOk}
use Rattle.ec_units.specs.declared.slave.Place.{Place}
use Rattle.ec_units.specs.declared.units.Units.{Units}
use Rattle.ec_units.specs.Views.{UnitsView, units_view}
use Rattle.ec_unit_text.specs.Reading.{reading}
use Rattle.ec_loads.specs.declared.plan.Plan.{Plan}
use Rattle.ec_cli_refusals.specs.declared.refusal.Refusal.{Refusal}
use Rattle.ec_cli_refusals.specs.Refusals.{IsFramesMemory, IsUnitsFault}
use Rattle.ec_cli_command.specs.declared.job.Job.{Job}
use Rattle.ec_cli_command.specs.declared.job.Job.TheVariants as job
use Rattle.ec_cli_text.specs.declared.answer.Answer.{Answer}
use Rattle.ec_cli_text.specs.Output.{Written, Answers, IsCheckOutput, IsCostsText, IsNoMemory, IsOutput, IsTextFor, refused, written_of}
use Rattle.ec_cli_text.proofs.PlacedLemmas.{answers_so}
use Rattle.ec_cli_inputs.specs.Input.{AnswersUnits, IsUnread, Says, text_given}
use Rattle.ec_cli_inputs.specs.declared.input.Inputs.{Inputs}
use Rattle.ec_frame_text.specs.Lines.{IsFramesText}
use Rattle.ec_play_text.specs.Plays.{IsPlayText}
use Rattle.ec_workers.specs.Answers.{asked_for}
use Rattle.ec_cli_answers.specs.Captures.{GivesNoPlan, IsPlanWant}
use Rattle.ec_cli_answers.specs.Planned.{IsPlanFault, IsPlanOf, IsResumeFault, IsResumeOf}
use Rattle.ec_cli_answers.specs.Told.{HandsNothing, HandsOn, HandsPlan, HasInput, IsCaptureTold, HasNoCert, IsOfPlan, IsPlanTold, IsSaidOf, IsTold, TellsBy, TellsFor, file_of, plan_of, plan_told, told}
use Rattle.ec_cli_answers.specs.declared.plans.Chosen.{Chosen}
use Rattle.ec_cli_answers.specs.declared.told.File.{File}
use Rattle.ec_cli_answers.specs.declared.told.File.TheVariants as file
use Rattle.ec_cli_answers.specs.declared.told.Told.{Told}
use Rattle.ec_cli_answers.proofs.CheckedLemmas.{too_long}
use Rattle.ec_cli_answers.proofs.FramedLemmas.{GivesPlan, IsUntold, unread_untold}
use Rattle.ec_cli_answers.proofs.PlanLemmas.{search_untold}
use Rattle.ec_cli_answers.proofs.ResumeLemmas.{unresumed}

-- ---- what goes with what is told

any_ok : (t : Result Told Refusal) → IfOk t (λ _. Unit {0})
any_ok (Ok t) = tt
any_ok (Err r) = tt

-- a refusal hands nothing on
none_ok : (P : Told → Type 0) (r : Refusal) (t : Result Told Refusal) → t ≡ Err r → IfOk t P
none_ok P r t is = rw is tt

-- what is told, whatever goes with it
abbrev pub Writes : Job → List ℕ → Option (List ℕ) → Result Told Refusal → Type 0
Writes j bytes cert t = TellsBy (IsTold j bytes cert) (λ _. Unit {0}) t

-- an answer with the same text and the same file tells the same, with what it hands on itself
pub same_tells : (j : Job) (bytes : List ℕ) (cert : Option (List ℕ)) (t s : Result Told Refusal) → told s ≡ told t → file_of s ≡ file_of t → IfOk s (HandsOn j bytes cert) → Writes j bytes cert t → TellsFor j bytes cert s
same_tells j bytes cert t s text file hands h = record { file = h.file; is = subst (λ (w : Written). IsTold j bytes cert w h.file) (sym text) h.is; made = file ∙ h.made; handed = hands }

-- where no certificate is written, the plan is the one that is kept
pub other_plan : (f : File) (plan : Plan) → HasNoCert f → plan_of f (Some plan) ≡ Some plan.places
other_plan file.Nothing plan other = refl
other_plan (file.Cert c) plan other = absurd other
other_plan (file.Capture bytes) plan other = refl

-- ---- a job without a file

abbrev IsSimple : Job → Type 0
IsSimple (job.Plan workers nodes strong keep) = ⊥
IsSimple (job.Resume workers nodes part) = ⊥
IsSimple job.Capture = ⊥
IsSimple _ = Unit {0}

simple_is : (j : Job) (bytes : List ℕ) (cert : Option (List ℕ)) (w : Written) → IsSimple j → (IsOutput j bytes cert w ⊎ IsNoMemory j w) → IsTold j bytes cert w None
simple_is (job.Plan workers nodes strong keep) bytes cert w simple h = absurd simple
simple_is (job.Resume workers nodes part) bytes cert w simple h = absurd simple
simple_is job.Capture bytes cert w simple h = absurd simple
simple_is j bytes cert w simple h = (h, refl)

said : (j : Job) (bytes : List ℕ) (cert : Option (List ℕ)) (a : Result Answer Refusal) → Answers j a (IsOutput j bytes cert) → (IsOutput j bytes cert (written_of a) ⊎ IsNoMemory j (written_of a))
said j bytes cert (Ok a) h = inl h
said j bytes cert (Err r) (inl memory) = inr (r, memory, refl)
said j bytes cert (Err r) (inr h) = inl h

simple_writes : (j : Job) (bytes : List ℕ) (cert : Option (List ℕ)) (a : Result Answer Refusal) (t : Result Told Refusal) → IsSimple j → told t ≡ written_of a → file_of t ≡ None → Answers j a (IsOutput j bytes cert) → Writes j bytes cert t
simple_writes j bytes cert a t simple text none h = record {
  file = None;
  is = subst (λ (w : Written). IsTold j bytes cert w None) (sym text) (simple_is j bytes cert (written_of a) simple (said j bytes cert a h));
  made = none;
  handed = any_ok t;
}

simple_untold : (j : Job) (bytes : List ℕ) (cert : Option (List ℕ)) (r : Refusal) (t : Result Told Refusal) → IsSimple j → t ≡ Err r → Answers j (Err r) (IsOutput j bytes cert) → TellsFor j bytes cert t
simple_untold j bytes cert r t simple is h = same_tells j bytes cert t t refl refl (none_ok (HandsOn j bytes cert) r t is) (simple_writes j bytes cert (Err r) t simple (ap told is) (ap file_of is) h)

-- ---- a check

check_said : (bytes text : List ℕ) (us : Units) (a : Result Answer Refusal) → AnswersUnits (Ok us) bytes → Answers job.Check a (IsCheckOutput (units_view us) text) → Answers job.Check a (IsOutput job.Check bytes (Some text))
check_said bytes text us a read h = answers_so job.Check a (IsCheckOutput (units_view us) text) (IsOutput job.Check bytes (Some text)) (λ w is. inl (units_view us, read.0, read.1, is)) h

pub check_tells : (bytes : List ℕ) (cert : Option (List ℕ)) (us : Units) (text : List ℕ) (a : Result Answer Refusal) (t : Result Told Refusal) → AnswersUnits (Ok us) bytes → Some text ≡ cert → told t ≡ written_of a → file_of t ≡ None
    → IfOk t HandsNothing → Answers job.Check a (IsCheckOutput (units_view us) text) → TellsFor job.Check bytes cert t
check_tells bytes cert us text a t read same words none hands h =
    subst (λ (c : Option (List ℕ)). TellsFor job.Check bytes c t) same (same_tells job.Check bytes (Some text) t t refl refl hands (simple_writes job.Check bytes (Some text) a t tt words none (check_said bytes text us a read h)))

-- ---- what is told of a plan

abbrev Texts : Type 1
Texts = UnitsView → List Place → List ℕ → Type 0

-- what a job that tells of a plan writes for the bytes of units, and of a certificate where there is one
abbrev IsTextOf : Texts → Option (List ℕ) → List ℕ → Written → Type 0
IsTextOf T cert bytes w =
    ((v : UnitsView) × (length bytes ≤ 1048576) × (reading bytes ≡ Ok v) × IsTextFor T cert v w) ⊎ ((r : Refusal) × IsUnitsFault bytes r × (w ≡ refused r))

answered : (T : Texts) (j : Job) (cert : Option (List ℕ)) (bytes : List ℕ) (us : Units) (plan : Plan) (answer : Result Answer Refusal) → GivesPlan cert bytes us plan → Answers j answer (λ w. T (units_view us) plan.places w.text × (w.code ≡ 0)) → Answers j answer (IsTextOf T cert bytes)
answered T j cert bytes us plan answer from h =
    answers_so j answer (λ w. T (units_view us) plan.places w.text × (w.code ≡ 0)) (IsTextOf T cert bytes) (λ w is. inl (units_view us, from.0, from.1, inl (plan.places, from.2, is.0, is.1))) h

unanswered : (T : Texts) (cert : Option (List ℕ)) (bytes : List ℕ) (r : Refusal) → GivesNoPlan cert bytes r → IsTextOf T cert bytes (refused r)
unanswered T cert bytes r (inl fault) = inr (r, fault, refl)
unanswered T cert bytes r (inr (v, short, said, less)) = inl (v, short, said, inr (r, less, refl))

either_so : {A B C D : Type 0} → (A → C) → (B → D) → A ⊎ B → C ⊎ D
either_so one other (inl a) = inl (one a)
either_so one other (inr b) = inr (other b)

-- want of memory over the plan is one over its frames
frames_want : (cert : Option (List ℕ)) (r : Refusal) → IsPlanWant cert r → IsFramesMemory r
frames_want None r memory = inl memory
frames_want (Some text) r (inl memory) = inl memory
frames_want (Some text) r (inr (inl read)) = inr (inl read)
frames_want (Some text) r (inr (inr room)) = inr (inr (inl room))

capture_writes : (bytes : List ℕ) (cert : Option (List ℕ)) (us : Units) (plan : Plan) (t : Result Told Refusal) → GivesPlan cert bytes us plan → IsCaptureTold (units_view us) plan.places t → Writes job.Capture bytes cert t
capture_writes bytes cert us plan (Ok t) from h = record {
  file = Some h.0;
  is = inl (
    h.0,
    refl,
    record {
      drawn = record { short = from.0; units = units_view us; said = from.1; places = plan.places; plan = from.2; capture = h.2 };
      text = h.3;
      status = h.4;
    },
  );
  made = h.1;
  handed = tt;
}
capture_writes bytes cert us plan (Err r) from h = record { file = None; is = inr (record { refusal = r; fault = inl h; line = refl; none = refl }); made = refl; handed = tt }

-- what is told of costs may be want of memory over a certificate too
costs_want : (a : Result Answer Refusal) (P : Written → Type 0) → Answers job.Cost a P → Answers job.PlanCost a P
costs_want (Ok a) P h = h
costs_want (Err r) P (inl memory) = inl (inl memory)
costs_want (Err r) P (inr h) = inr h

pub plan_writes : (j : Job) (bytes : List ℕ) (cert : Option (List ℕ)) (us : Units) (plan : Plan) (t : Result Told Refusal) → IsOfPlan j → HasInput j cert → GivesPlan cert bytes us plan → IsPlanTold j (units_view us) plan.places t → Writes j bytes cert t
plan_writes job.Cost bytes None us plan t of has from h = simple_writes job.Cost bytes None h.0 t tt h.1 h.2 (answered IsCostsText job.Cost None bytes us plan h.0 from h.3)
plan_writes job.Cost bytes (Some text) us plan t of has from h = absurd cc
plan_writes job.Frames bytes cert us plan t of has from h = simple_writes job.Frames bytes cert h.0 t tt h.1 h.2 (answered IsFramesText job.Frames cert bytes us plan h.0 from h.3)
plan_writes job.Capture bytes cert us plan t of has from h = capture_writes bytes cert us plan t from h
plan_writes job.PlanCost bytes cert us plan t of has from h = simple_writes job.PlanCost bytes cert h.0 t tt h.1 h.2 (answered IsCostsText job.PlanCost cert bytes us plan h.0 from (costs_want h.0 _ h.3))
plan_writes job.Play bytes cert us plan t of has from h = simple_writes job.Play bytes cert h.0 t tt h.1 h.2 (answered IsPlayText job.Play cert bytes us plan h.0 from h.3)
plan_writes j bytes cert us plan t of has from h = absurd of

hands_plan : (bytes : List ℕ) (cert : Option (List ℕ)) (us : Units) (plan : Plan) (t : Told) → GivesPlan cert bytes us plan → plan_told t ≡ Some plan.places → t.ending ≡ None → IsSaidOf cert t.verdict → HandsPlan cert bytes t
hands_plan bytes cert us plan t from is ending verdict = record { units = units_view us; said = from.1; places = plan.places; framed = from.2; plan = is; ending = ending; verdict = verdict }

pub plan_handed : (j : Job) (bytes : List ℕ) (cert : Option (List ℕ)) (us : Units) (plan : Plan) (t : Told) → IsOfPlan j → GivesPlan cert bytes us plan → plan_told t ≡ Some plan.places → t.ending ≡ None → IsSaidOf cert t.verdict → HandsOn j bytes cert t
plan_handed job.Cost bytes cert us plan t of from is ending verdict = hands_plan bytes cert us plan t from is ending verdict
plan_handed job.Frames bytes cert us plan t of from is ending verdict = hands_plan bytes cert us plan t from is ending verdict
plan_handed job.Capture bytes cert us plan t of from is ending verdict = hands_plan bytes cert us plan t from is ending verdict
plan_handed job.PlanCost bytes cert us plan t of from is ending verdict = hands_plan bytes cert us plan t from is ending verdict
plan_handed job.Play bytes cert us plan t of from is ending verdict = hands_plan bytes cert us plan t from is ending verdict
plan_handed j bytes cert us plan t of from is ending verdict = absurd of

-- what is handed on with the text of a plan that the inputs gave
pub handed_with : (j : Job) (bytes : List ℕ) (cert : Option (List ℕ)) (i : Inputs) (chosen : Chosen) (t : Result Told Refusal) → IsOfPlan j → GivesPlan cert bytes i.units chosen.plan → Says bytes cert i → IsSaidOf (text_given i) chosen.verdict
    → IfOk t (λ a. plan_told a ≡ Some chosen.plan.places) → IfOk t (λ a. a.ending ≡ None) → IfOk t (λ a. a.verdict ≡ chosen.verdict) → IfOk t (HandsOn j bytes cert)
handed_with j bytes cert i chosen (Ok a) of from says said plan ending verdict =
    plan_handed j bytes cert i.units chosen.plan a of from plan ending (subst (IsSaidOf cert) (sym verdict) (subst (λ (c : Option (List ℕ)). IsSaidOf c chosen.verdict) says.1 said))
handed_with j bytes cert i chosen (Err r) of from says said plan ending verdict = tt

pub fault_tells : (j : Job) (bytes : List ℕ) (cert : Option (List ℕ)) (r : Refusal) (t : Result Told Refusal) → IsOfPlan j → HasInput j cert → t ≡ Err r → IsUntold cert bytes r → TellsFor j bytes cert t
fault_tells job.Cost bytes None r t of has is h = simple_untold job.Cost bytes None r t tt is (either_so (λ m. m) (unanswered IsCostsText None bytes r) h)
fault_tells job.Cost bytes (Some text) r t of has is h = absurd cc
fault_tells job.Frames bytes cert r t of has is h = simple_untold job.Frames bytes cert r t tt is (either_so (frames_want cert r) (unanswered IsFramesText cert bytes r) h)
fault_tells job.Capture bytes cert r t of has is h = rw is (record { file = None; is = inr (record { refusal = r; fault = either_so (frames_want cert r) (λ n. n) h; line = refl; none = refl }); made = refl; handed = tt })
fault_tells job.PlanCost bytes cert r t of has is h = simple_untold job.PlanCost bytes cert r t tt is (either_so (frames_want cert r) (unanswered IsCostsText cert bytes r) h)
fault_tells job.Play bytes cert r t of has is h = simple_untold job.Play bytes cert r t tt is (either_so (λ m. inl (frames_want cert r m)) (unanswered IsPlayText cert bytes r) h)
fault_tells j bytes cert r t of has is h = absurd of

-- ---- where there are no inputs

check_unread : (bytes text : List ℕ) (r : Refusal) → IsUnread bytes (Some text) r → Answers job.Check (Err r) (IsOutput job.Check bytes (Some text))
check_unread bytes text r (inl (inl memory)) = inl (inl memory)
check_unread bytes text r (inl (inr room)) = inl (inr (inr room))
check_unread bytes text r (inr (inl fault)) = inr (inr (r, fault, refl))
check_unread bytes text r (inr (inr h)) = inr (inl (units_view h.0, h.1.0, h.1.1, rw (too_long text h.3) (ap refused h.2)))

plan_unread : (workers nodes : ℕ) (strong : Bool) (bytes : List ℕ) (r : Refusal) → IsUnread bytes None r → IsPlanFault (asked_for strong workers nodes) bytes r
plan_unread workers nodes strong bytes r (inl memory) = inr (inl memory)
plan_unread workers nodes strong bytes r (inr fault) = inl fault

pub unread_tells : (j : Job) (bytes : List ℕ) (cert : Option (List ℕ)) (r : Refusal) (t : Result Told Refusal) → HasInput j cert → t ≡ Err r → IsUnread bytes cert r → TellsFor j bytes cert t
unread_tells (job.Plan workers nodes strong keep) bytes None r t has is h = search_untold (IsPlanOf keep (asked_for strong workers nodes) bytes) (IsPlanFault (asked_for strong workers nodes) bytes) r t is (plan_unread workers nodes strong bytes r h)
unread_tells (job.Plan workers nodes strong keep) bytes (Some text) r t has is h = absurd cc
unread_tells (job.Resume workers nodes part) bytes None r t has is h = absurd has
unread_tells (job.Resume workers nodes part) bytes (Some text) r t has is h = search_untold (IsResumeOf workers nodes part bytes text) (IsResumeFault workers bytes text) r t is (unresumed workers bytes text r h)
unread_tells job.Check bytes None r t has is h = absurd has
unread_tells job.Check bytes (Some text) r t has is h = simple_untold job.Check bytes (Some text) r t tt is (check_unread bytes text r h)
unread_tells j bytes cert r t has is h = fault_tells j bytes cert r t tt has is (unread_untold bytes cert r h)
