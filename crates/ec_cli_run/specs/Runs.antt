-- What a run does with the readers and writers that it is lent.
use Rattle.std.specs.Prelude.{◌≡◌, ◌⊎◌, ℕ, Bool, true, false, List, Option, Some, None, Result, Ok, Err, String, IfSome}
use Rattle.std.specs.Io.KnownBytes.{Appends}
use Rattle.std.proofs.Common.{Global}
use Rattle.ec_wire.specs.declared.io.Io.{Io}
use Rattle.ec_wire.specs.Stream.{has_failed, WritesFront}
use Rattle.ec_cli_refusals.specs.declared.refusal.Refusal.{Refusal}
use Rattle.ec_cli_refusals.specs.declared.refusal.Refusal.TheVariants as refusal
use Rattle.ec_cli_command.specs.declared.job.Job.{Job}
use Rattle.ec_cli_command.specs.declared.job.Job.TheVariants as job
use Rattle.ec_cli_command.specs.Words.{reads_cert, writes_file}
use Rattle.ec_cli_files.specs.declared.fault.FileFault.{FileFault}
use Rattle.ec_cli_inputs.specs.Input.{ReadsBoth, ReadsUpTo, Says, most_of_units}
use Rattle.ec_cli_inputs.specs.declared.input.Inputs.{Inputs}
use Rattle.ec_cli_inputs.specs.Use.{Use, before, after, IsSound, HasFailed, HasNotFailed, IsKept, Lent, IfLent, IfGiven, IsLeft, nobody}
use Rattle.ec_cli_text.specs.Output.{Written, refused, shown}
use Rattle.ec_cli_answers.specs.Planned.{Gets, GetsFront}
use Rattle.ec_cli_answers.specs.Told.{HasInput, IsTold, TellsFor, file_of, told}
use Rattle.ec_cli_answers.specs.declared.told.Told.{Told}

-- ---- what is written

-- what is as said is told to the writer: whole with its status, or a front where a write failed, with the status 4
pub record Tells {W : Type 0} (is : Written → Type 0) (text : Use W) (code : ℕ) : Type 0 where
  pub written : Written
  pub said : is written
  pub whole : IsSound text → (code ≡ written.code) × Appends (before text) (after text) written.text
  pub front : WritesFront (before text) (after text) written.text
  pub failed : HasFailed text → code ≡ 4

-- a refusal is written
abbrev pub Refuses : Refusal → Written → Type 0
Refuses r w = w ≡ refused r

-- what is told is delivered: its file goes to the one writer, whole or a front of it, and what is written after it is its text, or that the file couldn't be written
pub record IsDelivered {O : Type 0} (answer : Result Told Refusal) (out : Use O) (w : Written) : Type 0 where
  pub whole : IsSound out → (w ≡ told answer) × Gets out.tells out.old out.new (file_of answer)
  pub front : GetsFront out.tells out.old out.new (file_of answer)
  pub failed : HasFailed out → Refuses refusal.Write w

-- ---- what a run does

-- what is told for a job of what was read, or why nothing was
abbrev pub AnswersOf : Job → Result Inputs Refusal → Result Told Refusal → Type 0
AnswersOf j (Ok i) answer = (bytes : List ℕ) (cert : Option (List ℕ)) → Says bytes cert i → TellsFor j bytes cert answer
AnswersOf j (Err r) answer = answer ≡ Err r

-- the job's units are read, and its certificate where it reads one; what is told of them goes to the writers. Of a certificate whose bytes aren't known it is what is
-- told for some text (`some`)
pub record Does {R C O : Type 0} (j : Job) (units : Use R) (cert : Lent C) (out : Lent O) (w : Written) : Type 0 where
  pub units_read : ReadsUpTo units most_of_units (Refuses refusal.Read w)
  pub cert_read : IfLent cert (Unit {0}) (λ c. ReadsBoth units c (Refuses refusal.Read w))
  pub told : IsSound units → HasNotFailed cert → HasNotFailed out → IfSome (before units) (λ bytes. IfGiven cert (λ text.
      (file : Option (List ℕ)) × IsTold j bytes text w file × IfLent out (Unit {0}) (λ o. Gets o.tells o.old o.new file)))
  pub front : IsSound units → HasNotFailed cert → IfSome (before units) (λ bytes. IfGiven cert (λ text.
      IfLent out (Unit {0}) (λ o. (v : Written) × (file : Option (List ℕ)) × IsTold j bytes text v file × GetsFront o.tells o.old o.new file)))
  pub some : IsSound units → IfLent cert (Unit {0}) (λ c. IfSome (before units) (λ bytes. (Refuses refusal.Read w ⊎ Refuses refusal.Write w) ⊎ ((text : List ℕ) × (file : Option (List ℕ)) × IsTold j bytes (Some text) w file × IfLent out (Unit {0}) (λ o. IsSound o → Gets o.tells o.old o.new file))))
  pub unwritten : IfLent out (Unit {0}) (λ o. HasFailed o → Refuses refusal.Write w)
  pub unread : IfLent out (Unit {0}) (λ o. HasFailed units → IsKept o)
  pub cert_unread : IfLent cert (Unit {0}) (λ c. IfLent out (Unit {0}) (λ o. HasFailed c → IsKept o))

-- one that is used, and else none
abbrev pub where_used : {X : Type 0} → Bool → Lent X → Lent X
where_used true s = s
where_used false s = nobody

-- a job that reads no certificate leaves it, and one that writes no file leaves the writer
abbrev pub DoesWith : {R C O : Type 0} → Job → Use R → Lent C → Lent O → Written → Type 0
DoesWith j units cert out w =
    Does j units (where_used (reads_cert j) cert) (where_used (writes_file j) out) w × (reads_cert j ≡ false → IsLeft cert) × (writes_file j ≡ false → IsLeft out)

-- ---- a command line, of whose files nothing is known

-- an answer is what is told where the path of a certificate to read is this: of one whose file isn't known, what is told for some text, unless it couldn't be read
abbrev pub AnswersLine : Job → Option (String Global) → List ℕ → Result Told Refusal → Type 0
AnswersLine j None bytes answer = TellsFor j bytes None answer
AnswersLine j (Some from) bytes answer = (answer ≡ Err refusal.Read) ⊎ ((text : List ℕ) × TellsFor j bytes (Some text) answer)

-- what is written for an answer: where its file isn't at its path, the refusal of a failed write; where nothing is told, the line that says why
abbrev pub reported : {E : Type 0} → (E → Written) → Result Told E → Option FileFault → Written
reported line (Ok t) None = shown t.answer
reported line (Ok t) (Some fault) = refused refusal.Write
reported line (Err why) fault = line why

-- ---- words that are no command line

-- the text that says why, with status 5
abbrev pub usage : List ℕ → Written
usage text = record { text = text; code = 5 }

-- ---- what a caller brings

-- a reader of a certificate, where the job reads one, has not failed, and is there where the job can't do without
abbrev pub HasCert : {C : Type 0} → Job → Option (Io C) → Type 0
HasCert job.Cost cert = Unit {0}
HasCert (job.Plan workers nodes strong keep) cert = Unit {0}
HasCert j None = HasInput j None
HasCert j (Some cert) = has_failed cert ≡ false

-- if there is a reader, it has not failed
abbrev pub NoneFailed : {C : Type 0} → Option (Io C) → Type 0
NoneFailed None = Unit {0}
NoneFailed (Some cert) = has_failed cert ≡ false

-- a writer, where the job writes a file, has not failed, if there is one
abbrev pub HasOut : {O : Type 0} → Job → Option (Io O) → Type 0
HasOut j out = writes_file j ≡ true → NoneFailed out
