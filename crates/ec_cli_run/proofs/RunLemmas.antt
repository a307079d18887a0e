-- What a run does, from what is told of what was read, and from how that was delivered.
-- What was read (`ReadsInputs`) and what is told of it (`AnswersOf`) give `TellsAlone` or `TellsBoth`; with how it is delivered (`Delivers`) these give the record
-- `Does`, which says what is to be written as facts under premises, and `Tells` says what becomes of that. Never look at a goal's `Exit.see ..`: `lent` takes entry
-- and exit raw, and `rw` by the arm's `.is`, round the small fact, computes it away.
use Rattle.std.proofs.Common.{◌≡◌, ◌∙◌, ℕ, Bool, Global, inl, inr, true, false, true≢false, List, Option, Some, None, Result, Ok, Err, refl, sym, ap, subst, [], arith}
use Rattle.std.specs.Prelude.{◌⊎◌, IfSome, IfOk, String, option_map}
use Rattle.std.specs.Io.KnownBytes.{Appends}
use Rattle.ec_wire.specs.Stream.{has_failed, WritesFront}
use Rattle.ec_cli_refusals.specs.declared.refusal.Refusal.{Refusal}
use Rattle.ec_cli_refusals.specs.declared.refusal.Refusal.TheVariants as refusal
use Rattle.ec_cli_refusals.specs.Refusals.{out_of_memory}
use Rattle.ec_cli_command.specs.declared.job.Job.{Job}
use Rattle.ec_cli_command.specs.declared.job.Job.TheVariants as job
use Rattle.ec_cli_inputs.specs.Input.{AreRead, ReadsBoth, ReadsInputs, ReadsUpTo, most_of_units, text_given}
use Rattle.ec_cli_inputs.specs.declared.input.Given.{Given}
use Rattle.ec_wire.specs.declared.io.Io.{Io}
use Rattle.std.proofs.KnownBytes.{Consumes-nil}
use Rattle.std.proofs.lemmas.Option.{IfSome_then}
use Rattle.ec_cli_inputs.specs.declared.input.Inputs.{Inputs}
use Rattle.ec_cli_inputs.specs.Use.{Use, used, before, after, IsSound, HasFailed, IsKept, IsLeft, Lent, IfLent, here, nobody}
use Rattle.ec_cli_inputs.proofs.InputLemmas.{read_refused}
use Rattle.ec_cli_text.specs.Output.{Written}
use Rattle.ec_cli_answers.specs.Planned.{Gets, GetsFront}
use Rattle.ec_cli_answers.specs.Told.{HasInput, IsTold, TellsFor, file_of, told}
use Rattle.ec_cli_answers.specs.declared.told.Told.{Told}
use Rattle.ec_cli_answers.proofs.ToldLemmas.{unread_tells}
use Rattle.ec_cli_run.specs.Runs.{AnswersLine, AnswersOf, Does, DoesWith, HasCert, IsDelivered, Refuses, Tells, where_used}
use Rattle.ec_cli_command.specs.Words.{reads_cert, writes_file}

-- what is told is also what follows from it
pub tells_more : {W : Type 0} {P Q : Written → Type 0} {text : Use W} {code : ℕ} → ((w : Written) → P w → Q w) → Tells P text code → Tells Q text code
tells_more more t = record { written = t.written; said = more t.written t.said; whole = t.whole; front = t.front; failed = t.failed }

-- from the bytes of one text
pub tells_text : {W : Type 0} (w : Written) (text : Use W) (code k : ℕ) (bytes : List ℕ) → bytes ≡ w.text → k ≡ w.code
    → (IsSound text → (code ≡ k) × Appends (before text) (after text) bytes) → WritesFront (before text) (after text) bytes → (HasFailed text → code ≡ 4) → Tells (λ v. v ≡ w) text code
tells_text w text code k bytes same status whole front failed = record {
  written = w;
  said = refl;
  whole = λ sound. ((whole sound).0 ∙ status, subst (Appends (before text) (after text)) same (whole sound).1);
  front = subst (WritesFront (before text) (after text)) same front;
  failed = failed;
}

pub true_or_false : (b : Bool) → (b ≡ true) ⊎ (b ≡ false)
true_or_false true = inl refl
true_or_false false = inr refl

-- ---- what is told of what was read

some_input : (j : Job) (text : List ℕ) → reads_cert j ≡ true → HasInput j (Some text)
some_input job.Cost text h = absurd (true≢false (sym h))
some_input (job.Plan workers nodes strong keep) text h = absurd (true≢false (sym h))
some_input j text h = tt

tells_one : (j : Job) (bytes : List ℕ) (text : Option (List ℕ)) (read : Result Inputs Refusal) (t : Result Told Refusal) → HasInput j text → AnswersOf j read t → AreRead bytes text read → TellsFor j bytes text t
tells_one j bytes text (Ok i) t has a said = a bytes text said
tells_one j bytes text (Err r) t has a why = unread_tells j bytes text r t has a why

same_read : (j : Job) (read : Result Inputs Refusal) (t : Result Told Refusal) → AnswersOf j read t → read ≡ Err refusal.Read → t ≡ Err refusal.Read
same_read j (Ok i) t a e = absurd cc
same_read j (Err r) t a e = read_refused {A = Inputs} t r a e

-- of a certificate whose bytes aren't known, for some text
abbrev SomeTold : Job → Result Told Refusal → List ℕ → Type 0
SomeTold j t bytes = (t ≡ Err refusal.Read) ⊎ ((text : List ℕ) × TellsFor j bytes (Some text) t)

tells_some : (j : Job) (bytes : List ℕ) (read : Result Inputs Refusal) (t : Result Told Refusal) → reads_cert j ≡ true → AnswersOf j read t → (read ≡ Err refusal.Read) ⊎ ((text : List ℕ) × AreRead bytes (Some text) read) → SomeTold j t bytes
tells_some j bytes read t has a (inl e) = inl (same_read j read t a e)
tells_some j bytes read t has a (inr h) = inr (h.0, tells_one j bytes (Some h.0) read t (some_input j h.0 has) a h.1)

-- another refusal follows from the one
pub reads_more : {X : Type 0} {s : Use X} {most : ℕ} {P Q : Type 0} → (HasFailed s → P → Q) → ReadsUpTo s most P → ReadsUpTo s most Q
reads_more more r = record { known = r.known; any = r.any; failed = λ f. more f (r.failed f) }

both_more : {R C : Type 0} {u : Use R} {c : Use C} {P Q : Type 0} → (HasFailed u → P → Q) → (HasFailed c → P → Q) → ReadsBoth u c P → ReadsBoth u c Q
both_more by_units by_cert r = record { units_read = reads_more by_units r.units_read; cert_read = reads_more by_cert r.cert_read; kept = r.kept; first = r.first }

-- ---- what is told of a job, where the certificate isn't lent and where it is

pub record TellsAlone {R : Type 0} (j : Job) (u : Use R) (t : Result Told Refusal) : Type 0 where
  pub read : ReadsUpTo u most_of_units (t ≡ Err refusal.Read)
  pub told : IsSound u → IfSome (before u) (λ bytes. TellsFor j bytes None t)

pub record TellsBoth {R C : Type 0} (j : Job) (u : Use R) (c : Use C) (t : Result Told Refusal) : Type 0 where
  pub read : ReadsBoth u c (t ≡ Err refusal.Read)
  pub told : IsSound u → IsSound c → IfSome (before u) (λ bytes. IfSome (before c) (λ text. TellsFor j bytes (Some text) t))
  pub some : IsSound u → IfSome (before u) (SomeTold j t)

pub told_alone : {R C : Type 0} (j : Job) (u : Use R) (read : Result Inputs Refusal) (t : Result Told Refusal) → HasInput j None → ReadsInputs {C = C} u nobody read → AnswersOf j read t → TellsAlone j u t
told_alone j u read t has r a = record {
  read = reads_more (λ f. same_read j read t a) r.units_read;
  told = λ sound. IfSome_then (before u) (r.told sound tt) (λ bytes. tells_one j bytes None read t has a);
}

pub told_both : {R C : Type 0} (j : Job) (u : Use R) (c : Use C) (read : Result Inputs Refusal) (t : Result Told Refusal) → reads_cert j ≡ true → ReadsInputs u (here c) read → AnswersOf j read t → TellsBoth j u c t
told_both j u c read t has r a = record {
  read = both_more (λ f. same_read j read t a) (λ f. same_read j read t a) r.cert_read;
  told = λ sound fine. IfSome_then (before u) (r.told sound fine) (λ bytes h. IfSome_then (before c) h (λ text. tells_one j bytes (Some text) read t (some_input j text has) a));
  some = λ sound. IfSome_then (before u) (r.some sound) (λ bytes. tells_some j bytes read t has a);
}

-- ---- what is written of it

-- what is written, with the file that is told
written : (j : Job) (bytes : List ℕ) (text : Option (List ℕ)) (t : Result Told Refusal) (w : Written) (got : Option (List ℕ) → Type 0) → w ≡ told t → got (file_of t) → TellsFor j bytes text t → (file : Option (List ℕ)) × IsTold j bytes text w file × got file
written j bytes text t w got is has h = (h.file, subst (λ (x : Written). IsTold j bytes text x h.file) (sym is) h.is, subst got h.made has)

-- a front of the file that is told, whatever is written
front : (j : Job) (bytes : List ℕ) (text : Option (List ℕ)) (t : Result Told Refusal) (got : Option (List ℕ) → Type 0) → got (file_of t) → TellsFor j bytes text t → (v : Written) × (file : Option (List ℕ)) × IsTold j bytes text v file × got file
front j bytes text t got has h = (told t, h.file, h.is, subst got h.made has)

abbrev SomeWritten : Job → (Option (List ℕ) → Type 0) → Written → List ℕ → Type 0
SomeWritten j got w bytes = (Refuses refusal.Read w ⊎ Refuses refusal.Write w) ⊎ ((text : List ℕ) × (file : Option (List ℕ)) × IsTold j bytes (Some text) w file × got file)

some_written : (j : Job) (got : Option (List ℕ) → Type 0) (t : Result Told Refusal) (w : Written) → w ≡ told t → got (file_of t) → (bytes : List ℕ) → SomeTold j t bytes → SomeWritten j got w bytes
some_written j got t w is has bytes (inl read) = inl (inl (is ∙ ap told read))
some_written j got t w is has bytes (inr h) = let one = written j bytes (Some h.0) t w got is has h.1 in inr (h.0, one.0, one.1, one.2)

refuses : (t : Result Told Refusal) (w : Written) → w ≡ told t → t ≡ Err refusal.Read → Refuses refusal.Read w
refuses t w is read = is ∙ ap told read

-- what is told is delivered where its file was written whole
pub delivered : {O : Type 0} (o : Use O) (answer : Result Told Refusal) (w : Written) → IsSound o → w ≡ told answer → Gets o.tells o.old o.new (file_of answer) → GetsFront o.tells o.old o.new (file_of answer) → IsDelivered answer o w
delivered o answer w sound is got front = record { whole = λ _. (is, got); front = front; failed = λ f. absurd (true≢false (sym f ∙ sound)) }

-- where nothing was read, the writer is as it was, and the refusal is written
unread_kept : {O : Type 0} (answer : Result Told Refusal) (o : Use O) (w : Written) → IsDelivered answer o w → answer ≡ Err refusal.Read → IsKept o
unread_kept answer o w d is = subst (λ (a : Result Told Refusal). GetsFront o.tells o.old o.new (file_of a)) is d.front

unread_told : {O : Type 0} (answer : Result Told Refusal) (o : Use O) (w : Written) → has_failed o.old ≡ false → IsDelivered answer o w → answer ≡ Err refusal.Read → Refuses refusal.Read w
unread_told answer o w fresh d is = refuses answer w (d.whole (ap has_failed (unread_kept answer o w d is) ∙ fresh)).0 is

-- ---- what a run does, without and with a writer of the file

-- one that isn't lent
abbrev Gone : {X : Type 0} → (X → Option (List ℕ)) → Lent X
Gone tells = record { tells = tells; old = None; new = None }

abbrev nothing : Option (List ℕ) → Type 0
nothing file = Unit {0}

does_alone : {R C O : Type 0} {tc : C → Option (List ℕ)} {to : O → Option (List ℕ)} (j : Job) (u : Use R) (t : Result Told Refusal) → TellsAlone j u t → (w : Written) → w ≡ told t → Does j u (Gone tc) (Gone to) w
does_alone j u t a w is = record {
  units_read = reads_more (λ f. refuses t w is) a.read;
  cert_read = tt;
  told = λ units cert out. IfSome_then (before u) (a.told units) (λ bytes. written j bytes None t w nothing is tt);
  front = λ units cert. IfSome_then (before u) (a.told units) (λ bytes h. tt);
  some = λ units. tt;
  unwritten = tt;
  unread = tt;
  cert_unread = tt;
}

does_both : {R C O : Type 0} {to : O → Option (List ℕ)} (j : Job) (u : Use R) (c : Use C) (t : Result Told Refusal) → TellsBoth j u c t → (w : Written) → w ≡ told t → Does j u (here c) (Gone to) w
does_both j u c t a w is = record {
  units_read = reads_more (λ f. refuses t w is) a.read.units_read;
  cert_read = both_more (λ f. refuses t w is) (λ f. refuses t w is) a.read;
  told = λ units cert out. IfSome_then (before u) (a.told units cert) (λ bytes h. IfSome_then (before c) h (λ text. written j bytes (Some text) t w nothing is tt));
  front = λ units cert. IfSome_then (before u) (a.told units cert) (λ bytes h. IfSome_then (before c) h (λ text told. tt));
  some = λ units. IfSome_then (before u) (a.some units) (some_written j nothing t w is tt);
  unwritten = tt;
  unread = tt;
  cert_unread = tt;
}

does_alone_to : {R C O : Type 0} {tc : C → Option (List ℕ)} (j : Job) (u : Use R) (o : Use O) (t : Result Told Refusal) → has_failed o.old ≡ false → TellsAlone j u t → (w : Written) → IsDelivered t o w → Does j u (Gone tc) (here o) w
does_alone_to j u o t fresh a w d = record {
  units_read = reads_more (λ f. unread_told t o w fresh d) a.read;
  cert_read = tt;
  told = λ units cert out. IfSome_then (before u) (a.told units) (λ bytes. written j bytes None t w (λ file. Gets o.tells o.old o.new file) (d.whole out).0 (d.whole out).1);
  front = λ units cert. IfSome_then (before u) (a.told units) (λ bytes. front j bytes None t (λ file. GetsFront o.tells o.old o.new file) d.front);
  some = λ units. tt;
  unwritten = d.failed;
  unread = λ f. unread_kept t o w d (a.read.failed f);
  cert_unread = tt;
}

does_both_to : {R C O : Type 0} (j : Job) (u : Use R) (c : Use C) (o : Use O) (t : Result Told Refusal) → has_failed o.old ≡ false → TellsBoth j u c t → (w : Written) → IsDelivered t o w → Does j u (here c) (here o) w
does_both_to j u c o t fresh a w d = record {
  units_read = reads_more (λ f. unread_told t o w fresh d) a.read.units_read;
  cert_read = both_more (λ f. unread_told t o w fresh d) (λ f. unread_told t o w fresh d) a.read;
  told = λ units cert out. IfSome_then (before u) (a.told units cert) (λ bytes h. IfSome_then (before c) h (λ text. written j bytes (Some text) t w (λ file. Gets o.tells o.old o.new file) (d.whole out).0 (d.whole out).1));
  front = λ units cert. IfSome_then (before u) (a.told units cert) (λ bytes h. IfSome_then (before c) h (λ text. front j bytes (Some text) t (λ file. GetsFront o.tells o.old o.new file) d.front));
  some = λ units. elim (true_or_false (has_failed o.new)) [
    | inl broken ↦ IfSome_then (before u) (a.some units) (λ bytes h. inl (inr (d.failed broken)))
    | inr whole ↦ IfSome_then (before u) (a.some units) (some_written j (λ file. IsSound o → Gets o.tells o.old o.new file) t w (d.whole whole).0 (λ _. (d.whole whole).1))
  ];
  unwritten = d.failed;
  unread = λ f. unread_kept t o w d (a.read.units_read.failed f);
  cert_unread = λ f. unread_kept t o w d (a.read.cert_read.failed f);
}

-- ---- of whatever is lent

-- what is told for a job, with a certificate or without one
abbrev TellsWith : {R C : Type 0} → Job → Use R → Lent C → Result Told Refusal → Type 0
TellsWith j u cert t = IfLent cert (TellsAlone j u t) (λ c. TellsBoth j u c t)

-- what is told goes to its writers: without one for its file as its text alone
abbrev Delivers : {O : Type 0} → Result Told Refusal → Lent O → Written → Type 0
Delivers t out w = IfLent out (w ≡ told t) (λ o. (has_failed o.old ≡ false) × IsDelivered t o w)

abbrev pub lent_at : {X : Type 0} → (X → Option (List ℕ)) → Option (Io X) → Option (Io X) → Lent X
lent_at tells old new = record { tells = tells; old = old; new = new }

does_at : {R C O : Type 0} (j : Job) (u : Use R) (tc : C → Option (List ℕ)) (old new : Option (Io C)) (to : O → Option (List ℕ)) (first last : Option (Io O)) (t : Result Told Refusal)
    → TellsWith j u (lent_at tc old new) t → (w : Written) → Delivers t (lent_at to first last) w → Does j u (lent_at tc old new) (lent_at to first last) w
does_at j u tc None (Some new) to first last t a w d = absurd a
does_at j u tc (Some old) None to first last t a w d = absurd a
does_at j u tc None None to None (Some last) t a w d = absurd d
does_at j u tc None None to (Some first) None t a w d = absurd d
does_at j u tc (Some old) (Some new) to None (Some last) t a w d = absurd d
does_at j u tc (Some old) (Some new) to (Some first) None t a w d = absurd d
does_at j u tc None None to None None t a w d = does_alone j u t a w d
does_at j u tc None None to (Some first) (Some last) t a w d = does_alone_to j u (used to first last) t d.0 a w d.1
does_at j u tc (Some old) (Some new) to None None t a w d = does_both j u (used tc old new) t a w d
does_at j u tc (Some old) (Some new) to (Some first) (Some last) t a w d = does_both_to j u (used tc old new) (used to first last) t d.0 a w d.1

-- ---- of what a job uses alone

-- how what is told is delivered, where a writer is lent that the job may not write to
abbrev pub DeliveredWith : {O : Type 0} → Job → Result Told Refusal → Lent O → Written → Type 0
DeliveredWith j t out w = Delivers t (where_used (writes_file j) out) w × (writes_file j ≡ false → IsLeft out)

pub write_with : {O : Type 0} (j : Job) (t : Result Told Refusal) (o : Use O) (w : Written) → writes_file j ≡ true → has_failed o.old ≡ false → IsDelivered t o w → DeliveredWith j t (here o) w
write_with j t o w is fresh d = rw is ((fresh, d), λ no. absurd (true≢false no))

pub unwritten_with : {O : Type 0} (j : Job) (t : Result Told Refusal) (out : Lent O) (w : Written) → writes_file j ≡ false → IsLeft out → w ≡ told t → DeliveredWith j t out w
unwritten_with j t out w is left d = rw is (d, λ _. left)

nowhere_either : {O : Type 0} (t : Result Told Refusal) (to : O → Option (List ℕ)) (w : Written) (b : Bool) → w ≡ told t → Delivers t (where_used b (Gone to)) w
nowhere_either t to w true d = d
nowhere_either t to w false d = d

pub nowhere_with : {O : Type 0} (j : Job) (t : Result Told Refusal) (to : O → Option (List ℕ)) (w : Written) → w ≡ told t → DeliveredWith j t (Gone to) w
nowhere_with j t to w d = (nowhere_either t to w (writes_file j) d, λ _. refl)

does : {R C O : Type 0} (j : Job) (u : Use R) (cert : Lent C) (out : Lent O) (t : Result Told Refusal) → TellsWith j u cert t → (w : Written) → Delivers t out w → Does j u cert out w
does j u cert out t a w d = does_at j u cert.tells cert.old cert.new out.tells out.old out.new t a w d

-- ---- which certificates a job is lent

none_needed : (j : Job) → reads_cert j ≡ false → HasInput j None
none_needed job.Cost is = refl
none_needed (job.Plan workers nodes strong keep) is = refl
none_needed j is = absurd (true≢false is)

none_lent : (C : Type 0) (j : Job) → HasCert {C = C} j None → HasInput j None
none_lent C job.Cost has = refl
none_lent C (job.Plan workers nodes strong keep) has = refl
none_lent C j has = has

-- ---- from what was read, and from how that is delivered, to what a run does

does_used : {R C O : Type 0} (j : Job) (u : Use R) (cert : Lent C) (out : Lent O) (t : Result Told Refusal) → TellsWith j u (where_used (reads_cert j) cert) t → (reads_cert j ≡ false → IsLeft cert) → (w : Written) → DeliveredWith j t out w → DoesWith j u cert out w
does_used j u cert out t a left w d = (does j u (where_used (reads_cert j) cert) (where_used (writes_file j) out) t a w d.0, left, d.1)

-- with a certificate that is read
pub does_read : {R C O : Type 0} (j : Job) (u : Use R) (c : Use C) (out : Lent O) (read : Result Inputs Refusal) (t : Result Told Refusal) → reads_cert j ≡ true → ReadsInputs u (here c) read → AnswersOf j read t → (w : Written) → DeliveredWith j t out w → DoesWith j u (here c) out w
does_read j u c out read t is r a w d = does_used j u (here c) out t (rw is (told_both j u c read t is r a)) (λ no. absurd (true≢false (sym is ∙ no))) w d

-- with one that isn't
pub does_unread : {R A C O : Type 0} (j : Job) (u : Use R) (cert : Lent C) (out : Lent O) (read : Result Inputs Refusal) (t : Result Told Refusal) → reads_cert j ≡ false → IsLeft cert → ReadsInputs {C = A} u nobody read → AnswersOf j read t → (w : Written) → DeliveredWith j t out w → DoesWith j u cert out w
does_unread j u cert out read t is left r a w d = does_used j u cert out t (rw is (told_alone j u read t (none_needed j is) r a)) (λ _. left) w d

gone_either : {R C : Type 0} {j : Job} {u : Use R} (tc : C → Option (List ℕ)) {t : Result Told Refusal} (b : Bool) → TellsAlone j u t → TellsWith j u (where_used b (Gone tc)) t
gone_either tc true a = a
gone_either tc false a = a

-- with none
pub does_without : {R A O : Type 0} (C : Type 0) (j : Job) (u : Use R) (tc : C → Option (List ℕ)) (out : Lent O) (read : Result Inputs Refusal) (t : Result Told Refusal) → HasCert {C = C} j None → ReadsInputs {C = A} u nobody read → AnswersOf j read t → (w : Written) → DeliveredWith j t out w → DoesWith j u (Gone tc) out w
does_without C j u tc out read t has r a w d = does_used j u (Gone tc) out t (gone_either tc (reads_cert j) (told_alone j u read t (none_lent C j has) r a)) (λ _. refl) w d

-- inputs without a certificate are those of a job that can do without
pub none_given : (j : Job) (read : Result Inputs Refusal) → HasInput j None → IfOk read (λ i. i.given ≡ None) → IfOk read (λ i. HasInput j (text_given i))
none_given j (Ok i) has none = subst (HasInput j) (sym (ap (option_map (λ (g : Given). g.text.items)) none)) has
none_given j (Err r) has none = tt

-- ---- a command line

-- where nothing was read
pub nothing_read : {R : Type 0} (tells : R → Option (List ℕ)) (io : Io R) (P : Type 0) → has_failed io ≡ false → ReadsUpTo (used tells io io) most_of_units P
nothing_read tells io P fresh = record { known = ([], omega arith, Consumes-nil _); any = omega arith; failed = λ f. absurd (true≢false (sym f ∙ fresh)) }

-- what is told where the certificate can't be opened
pub unopened : (j : Job) (from : String Global) (left : Option (List ℕ)) → IfSome left (λ bytes. AnswersLine j (Some from) bytes (Err refusal.Read))
unopened j from None = tt
unopened j from (Some bytes) = inl refl

-- what a line tells is what its job tells of its certificate
pub told_line : {j k : Job} {one from : Option (String Global)} (left : Option (List ℕ)) (answer : Result Told Refusal) → j ≡ k → one ≡ from → IfSome left (λ bytes. AnswersLine j one bytes answer) → IfSome left (λ bytes. AnswersLine k from bytes answer)
told_line {j} {k} {one} {from} left answer is same h =
    subst (λ (x : Job). IfSome left (λ bytes. AnswersLine x from bytes answer)) is (subst (λ (o : Option (String Global)). IfSome left (λ bytes. AnswersLine j o bytes answer)) same h)

-- what is told where memory ran out before anything was read
pub told_memory : (j : Job) (from : Option (String Global)) → (from ≡ None → HasInput j None) → ((path : String Global) → from ≡ Some path → reads_cert j ≡ true) → (left : Option (List ℕ)) → IfSome left (λ bytes. AnswersLine j from bytes (Err out_of_memory))
told_memory j from none some None = tt
told_memory j None none some (Some bytes) = unread_tells j bytes None out_of_memory (Err out_of_memory) (none refl) refl (inl refl)
told_memory j (Some path) none some (Some bytes) = inr ([], unread_tells j bytes (Some []) out_of_memory (Err out_of_memory) (some_input j [] (some path refl)) refl (inl (inl refl)))
