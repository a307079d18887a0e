-- What is told of certificates that were merged is true, from what is made of them.
use Rattle.std.proofs.Common.{◌≡◌, ◌≤◌, inl, inr, refl, ℕ, List, Option, Some, None, Result, Ok, Err, subst, sym, arith}
use Rattle.std.specs.Prelude.{IfOk, IfErr, IfSome}
use Rattle.std.proofs.lemmas.Option.{IfSome_then}
use Rattle.ec_tree.specs.Trees.{LevelsBound}
use Rattle.ec_cli_files.specs.declared.fault.FileFault.{FileFault}
use Rattle.ec_cli_refusals.specs.declared.refusal.Refusal.{Refusal}
use Rattle.ec_cli_refusals.specs.declared.refusal.Refusal.TheVariants as refusal
use Rattle.ec_cli_inputs.specs.Input.{AnswersUnits, AreRead, ReadsUpTo}
use Rattle.ec_cli_inputs.specs.declared.input.Inputs.{Inputs}
use Rattle.ec_cli_inputs.specs.Use.{Use, before, IsSound}
use Rattle.ec_cli_text.specs.Output.{Written, shown}
use Rattle.ec_cli_answers.specs.Merged.{IsMergeWritten}
use Rattle.ec_cli_answers.specs.Told.{file_bytes}
use Rattle.ec_cli_answers.specs.declared.told.Told.{Told}
use Rattle.ec_cli_run.specs.declared.merging.MergeFault.{MergeFault}
use Rattle.ec_cli_run.specs.declared.merging.MergeFault.TheVariants as fault
use Rattle.ec_cli_refusals.proofs.RefusalLemmas.{code_above}
use Rattle.ec_cli_run.specs.Merging.{HandsMerge, IsMergeFault, IsTrueMerge, IsUnmerged, MergeTellsTruth, unmerged}
use Rattle.ec_cli_run.specs.Runs.{reported}
use Rattle.ec_cli_run.proofs.PlanSound.{merge_true}
use Rattle.ec_cli_run.proofs.RunLemmas.{reads_more}
use Rattle.ec_cli_run.proofs.StatusLemmas.{by_other}
use Rattle.ec_cli_run.proofs.TruthLemmas.{IsTrueOf, reported_true}

-- what is told of a merged certificate is true of the units that were read
pub merge_truth : LevelsBound → (left : Option (List ℕ)) (i : Inputs) (t : Result Told MergeFault) → IfSome left (λ bytes. AreRead bytes None (Ok i))
    → ((bytes : List ℕ) → AnswersUnits (Ok i.units) bytes → IfOk t (λ a. IsMergeWritten bytes (shown a.answer) (file_bytes a.file)))
    → ((bytes : List ℕ) → AnswersUnits (Ok i.units) bytes → IfOk t (HandsMerge bytes)) → IfSome left (λ bytes. IsTrueMerge bytes t)
merge_truth levels None i t read told hands = tt
merge_truth levels (Some bytes) i (Ok a) read told hands = (merge_true levels bytes (shown a.answer) (file_bytes a.file) (told bytes read.0), hands bytes read.0)
merge_truth levels (Some bytes) i (Err why) read told hands = tt

-- and so it is where nothing is told
pub unmerged_truth : (left : Option (List ℕ)) (why : MergeFault) (t : Result Told MergeFault) → t ≡ Err why → IfSome left (λ bytes. IsTrueMerge bytes t)
unmerged_truth None why t is = tt
unmerged_truth (Some bytes) why t is = rw is tt

-- where nothing is told, the status is greater
unmerged_above : (why : MergeFault) → 3 ≤ (unmerged why).code
unmerged_above (fault.Refused r) = code_above r
unmerged_above (fault.Cert number r) = code_above r
unmerged_above (fault.Misfit number why) = omega arith

told_truth : (bytes : List ℕ) (t : Result Told MergeFault) → IsTrueMerge bytes t → IfOk t (λ a. IsTrueOf bytes (shown a.answer))
told_truth bytes (Ok a) true = (file_bytes a.file, true.0)
told_truth bytes (Err why) true = tt

-- what is written of it tells the truth
pub merge_tells : {R : Type 0} (units : Use R) (t : Result Told MergeFault) (file : Option FileFault) (w : Written) → w ≡ reported unmerged t file → (IsSound units → IfSome (before units) (λ bytes. IsTrueMerge bytes t)) → MergeTellsTruth units w
merge_tells units t file w is told = λ sound. IfSome_then (before units) (told sound) (λ bytes true. reported_true unmerged (IsTrueOf bytes) (λ v above. (None, by_other v.code above)) unmerged_above w t file is (told_truth bytes t true))

-- why nothing is told of units that can't be read
pub unread_fault : (left : Option (List ℕ)) (r : Refusal) (t : Result Told MergeFault) (count : ℕ) → t ≡ Err (fault.Refused r) → IfSome left (λ bytes. AreRead bytes None (Err r)) → IfSome left (λ bytes. IfErr t (IsMergeFault bytes count))
unread_fault None r t count is read = tt
unread_fault (Some bytes) r t count is read = rw is (inl (r, refl, read))

-- and of certificates that aren't merged for units that were read
pub unmerged_fault : (left : Option (List ℕ)) (i : Inputs) (t : Result Told MergeFault) (count : ℕ) → IfSome left (λ bytes. AreRead bytes None (Ok i)) → IfErr t (IsUnmerged i.units count) → IfSome left (λ bytes. IfErr t (IsMergeFault bytes count))
unmerged_fault None i t count read why = tt
unmerged_fault (Some bytes) i (Ok a) count read why = tt
unmerged_fault (Some bytes) i (Err f) count read why = inr (i.units, read.0, why)

-- a refusal of the units is told
abbrev Unreads : Result Inputs Refusal → Result Told MergeFault → Type 0
Unreads (Ok i) t = Unit {0}
Unreads (Err r) t = t ≡ Err (fault.Refused r)

same_unread : (read : Result Inputs Refusal) (t : Result Told MergeFault) → Unreads read t → read ≡ Err refusal.Read → t ≡ Err (fault.Refused refusal.Read)
same_unread read t told is = subst (λ x. Unreads x t) is told

pub unread_read : {X : Type 0} {u : Use X} {most : ℕ} (units : Result Inputs Refusal) (r : Refusal) (t : Result Told MergeFault) → units ≡ Err r → t ≡ Err (fault.Refused r) → ReadsUpTo u most (units ≡ Err refusal.Read) → ReadsUpTo u most (t ≡ Err (fault.Refused refusal.Read))
unread_read units r t is told read = reads_more (λ _. same_unread units t (subst (λ x. Unreads x t) (sym is) told)) read
