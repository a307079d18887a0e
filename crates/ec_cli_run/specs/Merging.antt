-- What a merge of certificates writes.
use Rattle.std.specs.Prelude.{◌≡◌, ◌⊎◌, ℕ, ◌≤◌, List, ◌++◌, Option, Result, Ok, Err, IfSome, codes}
use Rattle.std.specs.Fmt.{decimal}
use Rattle.ec_units.specs.declared.units.Units.{Units}
use Rattle.ec_cert.specs.Shapes.{CertView}
use Rattle.ec_cert_text.specs.declared.fault.CertFault.TheVariants as cert
use Rattle.ec_cert_merge.specs.Certs.{IsMisfit, IsProven}
use Rattle.ec_cli_refusals.specs.declared.refusal.Refusal.{Refusal}
use Rattle.ec_cli_refusals.specs.declared.refusal.Refusal.TheVariants as refusal
use Rattle.ec_cli_refusals.specs.Refusals.{out_of_memory, check_memory}
use Rattle.ec_cli_inputs.specs.Input.{AnswersUnits, IsAloneFault}
use Rattle.ec_cli_inputs.specs.Use.{Use, before, IsSound}
use Rattle.ec_cert_merge.specs.declared.fault.Misfit.{Misfit}
use Rattle.ec_cert_merge.specs.declared.fault.Misfit.TheVariants as misfit
use Rattle.ec_cli_text.specs.Output.{Written, refused, shown}
use Rattle.ec_cli_answers.specs.RightTexts.{IsWrongText}
use Rattle.ec_cli_answers.specs.Merged.{IsMergeOf}
use Rattle.ec_cli_answers.specs.Told.{HandsOutcome, file_bytes}
use Rattle.ec_cli_answers.specs.declared.told.Told.{Told}
use Rattle.ec_cli_run.specs.declared.merging.MergeFault.{MergeFault}
use Rattle.ec_cli_run.specs.declared.merging.MergeFault.TheVariants as fault
use Rattle.ec_cli_run.specs.Sound.{TellsTruth}

-- why a certificate doesn't fit with the first: its code and its name
abbrev pub misfit_text : Misfit → List ℕ
misfit_text misfit.Order = codes "M1 Order"
misfit_text misfit.Rules = codes "M2 Rules"

-- the line that refuses it, with its number among the certificates, from 1, and its status
abbrev pub misfit_output : Misfit → ℕ → Written
misfit_output why number = record { text = codes "refused " ++ (misfit_text why ++ (codes " " ++ (decimal number ++ codes "\n"))); code = 3 }

-- what is written where certificates aren't merged
abbrev pub unmerged : MergeFault → Written
unmerged (fault.Refused why) = refused why
unmerged (fault.Cert number why) = refused why
unmerged (fault.Misfit number why) = misfit_output why number

-- ---- why certificates aren't merged

-- why a file gives no certificate for these units: it can't be read, memory ran out over it, it is too long, or it has a text that is refused as a check refuses it
abbrev pub IsNoCert : Units → Refusal → Type 0
IsNoCert us r = ((r ≡ refusal.Read) ⊎ (r ≡ out_of_memory)) ⊎ ((r ≡ refusal.Cert cert.TooLarge) ⊎ ((text : List ℕ) × IsWrongText us text r))

-- why so many certificates aren't merged for these units: memory ran out, one of them is none, or one to which the checker says yes doesn't fit with what those before
-- it show
abbrev pub IsUnmerged : Units → ℕ → MergeFault → Type 0
IsUnmerged us count (fault.Refused r) = (r ≡ out_of_memory) ⊎ (r ≡ check_memory)
IsUnmerged us count (fault.Cert number r) = (1 ≤ number) × (number ≤ count) × IsNoCert us r
IsUnmerged us count (fault.Misfit number why) =
    (2 ≤ number) × (number ≤ count) × (a b : CertView) × IsProven us.units us.slots a × IsProven us.units us.slots b × IsMisfit a b why

-- why nothing comes of so many certificates for the units that the bytes say: the bytes give no units, or they do and the certificates aren't merged
abbrev pub IsMergeFault : List ℕ → ℕ → MergeFault → Type 0
IsMergeFault bytes count why =
    ((r : Refusal) × (why ≡ fault.Refused r) × IsAloneFault bytes r) ⊎ ((us : Units) × AnswersUnits (Ok us) bytes × IsUnmerged us count why)

-- ---- what is told of them

-- what goes with the text of some certificates that were merged
abbrev pub HandsMerge : List ℕ → Told → Type 0
HandsMerge bytes t = (cert : CertView) × HandsOutcome (IsMergeOf bytes cert) t

-- what is told of certificates that were merged is true of the units that the bytes say, and so is their file; with it goes what their outcome has
abbrev pub IsTrueMerge : List ℕ → Result Told MergeFault → Type 0
IsTrueMerge bytes (Ok t) = TellsTruth bytes (shown t.answer) (file_bytes t.file) × HandsMerge bytes t
IsTrueMerge bytes (Err why) = Unit {0}

-- what is written is true of the units that were read
abbrev pub MergeTellsTruth : {R : Type 0} → Use R → Written → Type 0
MergeTellsTruth units w = IsSound units → IfSome (before units) (λ bytes. (file : Option (List ℕ)) × TellsTruth bytes w file)
