-- What a run, a command line and a merge tell is true, from what they do.
use Rattle.std.proofs.Common.{Bool, ◌≡◌, ℕ, ◌≤◌, Global, List, Option, Some, None, Result, Ok, Err, inl, inr, ap, sym, subst, arith}
use Rattle.std.specs.Prelude.{◌⊎◌, IfOk, IfSome, String}
use Rattle.std.proofs.lemmas.Option.{IfSome_then}
use Rattle.ec_tree.specs.Trees.{TreesBound, LevelsBound}
use Rattle.ec_wire.specs.declared.io.Io.{Io}
use Rattle.ec_wire.specs.Stream.{has_failed}
use Rattle.ec_cli_refusals.specs.declared.refusal.Refusal.{Refusal}
use Rattle.ec_cli_refusals.specs.declared.refusal.Refusal.TheVariants as refusal
use Rattle.ec_cli_refusals.specs.Refusals.{refusal_code}
use Rattle.ec_cli_refusals.proofs.RefusalLemmas.{code_above}
use Rattle.ec_cert.specs.declared.part.Part.{Part}
use Rattle.ec_cli_command.specs.declared.job.Job.{Job}
use Rattle.ec_cli_command.specs.declared.job.Job.TheVariants as job
use Rattle.ec_cli_files.specs.declared.fault.FileFault.{FileFault}
use Rattle.ec_cli_inputs.specs.Use.{Use, used, before, IsSound, HasFailed, HasNotFailed, Lent, IfLent}
use Rattle.ec_cli_text.specs.Output.{Written, IsNoMemory, IsOutput, refused, shown}
use Rattle.ec_cli_answers.specs.Planned.{Gets}
use Rattle.ec_cli_answers.specs.Told.{IsTold}
use Rattle.ec_cli_answers.specs.declared.told.Told.{Told}
use Rattle.ec_workers.specs.Answers.{asked_for}
use Rattle.ec_cli_run.specs.Runs.{AnswersLine, DoesWith, HasCert, Refuses, reported}
use Rattle.ec_cli_run.specs.Sound.{LineIsTrue, RunIsTrue, TellsTruth, YesTellsTruth}
use Rattle.ec_cli_run.proofs.PlanSound.{plan_true, resume_true}
use Rattle.ec_cli_run.proofs.RunLemmas.{lent_at, true_or_false}
use Rattle.ec_cli_run.proofs.SoundLemmas.{yes_true}
use Rattle.ec_cli_run.proofs.StatusLemmas.{by_other, by_refusal}

-- ---- what is told of a job

-- of a search, with its file
abbrev Searches : Job → Type 0
Searches (job.Plan workers nodes strong keep) = Unit {0}
Searches (job.Resume workers nodes part) = Unit {0}
Searches _ = ⊥

search_true : LevelsBound → (j : Job) → Searches j → (bytes : List ℕ) (cert : Option (List ℕ)) (w : Written) (file : Option (List ℕ)) → IsTold j bytes cert w file → TellsTruth bytes w file
search_true levels (job.Plan workers nodes strong keep) is bytes cert w file h = plan_true levels keep (asked_for strong workers nodes) bytes w file h
search_true levels (job.Resume workers nodes part) is bytes None w file h = absurd h
search_true levels (job.Resume workers nodes part) is bytes (Some text) w file h = resume_true levels workers nodes part bytes text w file h
search_true levels j is bytes cert w file h = absurd is

check_true : TreesBound → LevelsBound → (bytes : List ℕ) (cert : Option (List ℕ)) (w : Written) → IsOutput job.Check bytes cert w ⊎ IsNoMemory job.Check w → YesTellsTruth bytes w
check_true trees levels bytes (Some text) w (inl h) = yes_true trees levels bytes text w h
check_true trees levels bytes None w (inl (inl h)) = absurd h.3
check_true trees levels bytes None w (inl (inr h)) = by_refusal w h.0 h.2
check_true trees levels bytes cert w (inr h) = by_refusal w h.0 h.2

-- ---- what a run tells

-- a search tells the truth, and its file is the one that the writer gets
abbrev IsTrueWith : {O : Type 0} → Lent O → Written → List ℕ → Type 0
IsTrueWith out w bytes = (file : Option (List ℕ)) × TellsTruth bytes w file × (w.code ≤ 2 → IfLent out (Unit {0}) (λ o. IsSound o → Gets o.tells o.old o.new file))

refused_true : {O : Type 0} (out : Lent O) (bytes : List ℕ) (w : Written) (r : Refusal) → Refuses r w → IsTrueWith out w bytes
refused_true out bytes w r is =
    let code : w.code ≡ refusal_code r = ap (λ (v : Written). v.code) is in
    (None, by_refusal w r is, λ small. absurd (omega (arith, code_above r, code, small)))

-- of a plan, where its writer failed or not
got_at : {O : Type 0} (bytes : List ℕ) (w : Written) (tells : O → Option (List ℕ)) (old new : Option (Io O))
    → (HasNotFailed (lent_at tells old new) → (file : Option (List ℕ)) × TellsTruth bytes w file × IfLent (lent_at tells old new) (Unit {0}) (λ o. Gets o.tells o.old o.new file))
    → IfLent (lent_at tells old new) (Unit {0}) (λ o. HasFailed o → Refuses refusal.Write w) → IsTrueWith (lent_at tells old new) w bytes
got_at bytes w tells None None told unwritten = let h = told tt in (h.0, h.1, λ small. tt)
got_at bytes w tells None (Some new) told unwritten = absurd unwritten
got_at bytes w tells (Some old) None told unwritten = absurd unwritten
got_at bytes w tells (Some old) (Some new) told unwritten = elim (true_or_false (has_failed new)) [
  | inl broken ↦ refused_true (lent_at tells (Some old) (Some new)) bytes w refusal.Write (unwritten broken)
  | inr whole ↦ let h = told whole in (h.0, h.1, λ small sound. h.2)
]

got_true : {O : Type 0} (bytes : List ℕ) (w : Written) (out : Lent O) → (HasNotFailed out → (file : Option (List ℕ)) × TellsTruth bytes w file × IfLent out (Unit {0}) (λ o. Gets o.tells o.old o.new file))
    → IfLent out (Unit {0}) (λ o. HasFailed o → Refuses refusal.Write w) → IsTrueWith out w bytes
got_true bytes w out told unwritten = got_at bytes w out.tells out.old out.new told unwritten

plan_all : {O : Type 0} (levels : LevelsBound) (workers nodes : ℕ) (strong keep : Bool) (left : Option (List ℕ)) (out : Lent O) (w : Written)
    → (HasNotFailed out → IfSome left (λ bytes. (file : Option (List ℕ)) × IsTold (job.Plan workers nodes strong keep) bytes None w file × IfLent out (Unit {0}) (λ o. Gets o.tells o.old o.new file)))
    → IfLent out (Unit {0}) (λ o. HasFailed o → Refuses refusal.Write w) → IfSome left (IsTrueWith out w)
plan_all levels workers nodes strong keep None out w told unwritten = tt
plan_all levels workers nodes strong keep (Some bytes) out w told unwritten = got_true bytes w out (λ fine. let h = told fine in (h.0, search_true levels (job.Plan workers nodes strong keep) tt bytes None w h.0 h.1, h.2)) unwritten

-- of a resumed search, whatever its certificate holds
resume_all : {O : Type 0} (levels : LevelsBound) (workers nodes : ℕ) (part : Part) (left : Option (List ℕ)) (out : Lent O) (w : Written)
    → IfSome left (λ bytes. (Refuses refusal.Read w ⊎ Refuses refusal.Write w) ⊎ ((text : List ℕ) × (file : Option (List ℕ)) × IsTold (job.Resume workers nodes part) bytes (Some text) w file × IfLent out (Unit {0}) (λ o. IsSound o → Gets o.tells o.old o.new file)))
    → IfSome left (IsTrueWith out w)
resume_all levels workers nodes part None out w h = tt
resume_all levels workers nodes part (Some bytes) out w (inl (inl read)) = refused_true out bytes w refusal.Read read
resume_all levels workers nodes part (Some bytes) out w (inl (inr write)) = refused_true out bytes w refusal.Write write
resume_all levels workers nodes part (Some bytes) out w (inr h) = (h.1, search_true levels (job.Resume workers nodes part) tt bytes (Some h.0) w h.1 h.2, λ small. h.3)

-- and of a check
check_all : (trees : TreesBound) (levels : LevelsBound) (left : Option (List ℕ)) (P : Option (List ℕ) → Type 0) (w : Written)
    → IfSome left (λ bytes. (Refuses refusal.Read w ⊎ Refuses refusal.Write w) ⊎ ((text : List ℕ) × (file : Option (List ℕ)) × IsTold job.Check bytes (Some text) w file × P file)) → IfSome left (λ bytes. YesTellsTruth bytes w)
check_all trees levels None P w h = tt
check_all trees levels (Some bytes) P w (inl (inl read)) = by_refusal w refusal.Read read
check_all trees levels (Some bytes) P w (inl (inr write)) = by_refusal w refusal.Write write
check_all trees levels (Some bytes) P w (inr h) = check_true trees levels bytes (Some h.0) w h.2.0

-- what is known of a certificate that is there
known_at : {C : Type 0} (j : Job) (tells : C → Option (List ℕ)) (old new : Option (Io C)) (none : Type 0) (P : Use C → Type 0) (Q : Type 0)
    → (HasCert {C = C} j None → ⊥) → HasCert j old → ((c : Use C) → P c → Q) → IfLent (lent_at tells old new) none P → Q
known_at j tells None None none P Q needs has say h = absurd (needs has)
known_at j tells None (Some new) none P Q needs has say h = absurd h
known_at j tells (Some old) None none P Q needs has say h = absurd h
known_at j tells (Some old) (Some new) none P Q needs has say h = say (used tells old new) h

lent_there : {C : Type 0} (j : Job) (cert : Lent C) (none : Type 0) (P : Use C → Type 0) (Q : Type 0) → (HasCert {C = C} j None → ⊥) → HasCert j cert.old → ((c : Use C) → P c → Q) → IfLent cert none P → Q
lent_there j cert none P Q needs has say h = known_at j cert.tells cert.old cert.new none P Q needs has say h

pub run_true : {R C O : Type 0} → TreesBound → LevelsBound → (j : Job) (u : Use R) (cert : Lent C) (out : Lent O) (w : Written) → HasCert j cert.old → DoesWith j u cert out w → RunIsTrue j u out w
run_true trees levels (job.Plan workers nodes strong keep) u cert out w has d = λ sound. plan_all levels workers nodes strong keep (before u) out w (λ fine. d.0.told sound tt fine) d.0.unwritten
run_true trees levels (job.Resume workers nodes part) u cert out w has d = λ sound.
    lent_there (job.Resume workers nodes part) cert _ _ (IfSome (before u) (IsTrueWith out w)) (λ e. e) has (λ c h. resume_all levels workers nodes part (before u) out w h) (d.0.some sound)
run_true trees levels job.Check u cert out w has d = λ sound.
    lent_there job.Check cert _ _ (IfSome (before u) (λ bytes. YesTellsTruth bytes w)) (λ e. e) has (λ c h. check_all trees levels (before u) (λ file. Unit {0}) w h) (d.0.some sound)
run_true trees levels j u cert out w has d = tt

-- what a run does, and that it is true
pub truly : {R C O : Type 0} → TreesBound → LevelsBound → (j : Job) (u : Use R) (cert : Lent C) (out : Lent O) (w : Written) → HasCert j cert.old → DoesWith j u cert out w → DoesWith j u cert out w × RunIsTrue j u out w
truly trees levels j u cert out w has d = (d, run_true trees levels j u cert out w has d)

-- ---- what a command line or a merge reports

-- what is written is as each text with a greater status is, where what is told is so
pub reported_true : {E : Type 0} (line : E → Written) (P : Written → Type 0) → ((w : Written) → 3 ≤ w.code → P w) → ((why : E) → 3 ≤ (line why).code) → (w : Written) (t : Result Told E) (file : Option FileFault) → w ≡ reported line t file → IfOk t (λ a. P (shown a.answer)) → P w
reported_true line P other above w (Ok a) None is true = subst P (sym is) true
reported_true line P other above w (Ok a) (Some why) is true = other w (omega (arith, ap (λ (v : Written). v.code) is))
reported_true line P other above w (Err why) file is true = other w (omega (arith, above why, ap (λ (v : Written). v.code) is))

-- of a search, with some file
abbrev pub IsTrueOf : List ℕ → Written → Type 0
IsTrueOf bytes w = (file : Option (List ℕ)) × TellsTruth bytes w file

search_answer : LevelsBound → (j : Job) → Searches j → (from : Option (String Global)) (bytes : List ℕ) (t : Result Told Refusal) → AnswersLine j from bytes t → IfOk t (λ a. IsTrueOf bytes (shown a.answer))
search_answer levels j is None bytes (Ok a) h = (h.file, search_true levels j is bytes None (shown a.answer) h.file h.is)
search_answer levels j is (Some from) bytes (Ok a) (inl read) = absurd cc
search_answer levels j is (Some from) bytes (Ok a) (inr h) = (h.1.file, search_true levels j is bytes (Some h.0) (shown a.answer) h.1.file h.1.is)
search_answer levels j is from bytes (Err r) h = tt

check_answer : TreesBound → LevelsBound → (from : Option (String Global)) (bytes : List ℕ) (t : Result Told Refusal) → AnswersLine job.Check from bytes t → IfOk t (λ a. YesTellsTruth bytes (shown a.answer))
check_answer trees levels None bytes (Ok a) h = check_true trees levels bytes None (shown a.answer) h.is.0
check_answer trees levels (Some from) bytes (Ok a) (inl read) = absurd cc
check_answer trees levels (Some from) bytes (Ok a) (inr h) = check_true trees levels bytes (Some h.0) (shown a.answer) h.1.is.0
check_answer trees levels from bytes (Err r) h = tt

search_line : {R : Type 0} → LevelsBound → (j : Job) → Searches j → (from : Option (String Global)) (u : Use R) (t : Result Told Refusal) (file : Option FileFault) (w : Written) → w ≡ reported refused t file → (IsSound u → IfSome (before u) (λ bytes. AnswersLine j from bytes t)) → IsSound u → IfSome (before u) (λ bytes. IsTrueOf bytes w)
search_line levels j is from u t file w so told sound = IfSome_then (before u) (told sound) (λ bytes a. reported_true refused (IsTrueOf bytes) (λ v above. (None, by_other v.code above)) code_above w t file so (search_answer levels j is from bytes t a))

pub line_true : {R : Type 0} → TreesBound → LevelsBound → (j : Job) (from : Option (String Global)) (u : Use R) (t : Result Told Refusal) (file : Option FileFault) (w : Written) → w ≡ reported refused t file → (IsSound u → IfSome (before u) (λ bytes. AnswersLine j from bytes t)) → LineIsTrue j u w
line_true trees levels (job.Plan workers nodes strong keep) from u t file w is told = search_line levels (job.Plan workers nodes strong keep) tt from u t file w is told
line_true trees levels (job.Resume workers nodes part) from u t file w is told = search_line levels (job.Resume workers nodes part) tt from u t file w is told
line_true trees levels job.Check from u t file w is told = λ sound. IfSome_then (before u) (told sound) (λ bytes a. reported_true refused (YesTellsTruth bytes) (λ v above. by_other v.code above) code_above w t file is (check_answer trees levels from bytes t a))
line_true trees levels j from u t file w is told = tt
