-- From what the readers have to why there is nothing to check.
-- What a check of a certificate begins with is one call, `inputs`: units, loads with no place, the text. Its `err`
-- (`IsInputFault`) is taken to frames, a check and a resume by one lemma each.
use Rattle.std.proofs.Common.{◌≡◌, ℕ, ◌<◌, ◌≤◌, ◌+◌, Bool, true, false, true≢false, List, [], ◌++◌, length, replicate, suc, take, Option, Some, None, Result, Ok, Err, refl, sym, ap, subst, ◌∙◌, inl, inr, arith, length-append, append-nil}
use Rattle.std.proofs.lemmas.List.{length-replicate, take-append-le}
use Rattle.std.specs.Prelude.{◌⊎◌, IfSome, IfErr, IsErrAnd}
use Rattle.std.specs.Io.KnownBytes.{Consumes, IsAtEnd}
use Rattle.std.proofs.KnownBytes.{Consumes-trans, Consumes-whole}
use Rattle.ec_unit_text.specs.Reading.{reading, IsValidText, Fails}
use Rattle.ec_unit_text.specs.declared.fault.UnitFault.{UnitFault}
use Rattle.ec_units.specs.Views.{units_view}
use Rattle.ec_units.specs.declared.units.Units.{Units}
use Rattle.ec_unit_text.specs.declared.fault.UnitFault.TheVariants as fault
use Rattle.ec_cert_text.specs.declared.fault.CertFault.TheVariants as cert
use Rattle.ec_cli_refusals.specs.declared.refusal.Refusal.{Refusal}
use Rattle.ec_cli_refusals.specs.declared.refusal.Refusal.TheVariants as refusal
use Rattle.ec_cli_refusals.specs.Refusals.{IsReadFault, out_of_memory, check_memory}
use Rattle.ec_cli_inputs.specs.Input.{ReadsAll, AreRead, AreUnits, AnswersUnits, IsInputFault, ReadsTooMany, text_given}
use Rattle.ec_cli_inputs.specs.declared.input.Inputs.{Inputs}

-- the front of a buffer is added to what was read
pub read_piece : (old new buf rest : List ℕ) (n : ℕ) → (n ≤ length buf) × (n ≡ length (take n buf)) → new ≡ old ++ take n (buf ++ rest) → (new ≡ old ++ take n buf) × (length new ≡ length old + n)
read_piece old new buf rest n fits is =
    let new_is : new ≡ old ++ take n buf = is ∙ ap (λ l. old ++ l) (take-append-le n buf rest fits.0) in
    (new_is, ap length new_is ∙ length-append old (take n buf) ∙ ap (λ k. length old + k) (sym fits.1))

-- what was read so far, and one read more
pub read_more : (a b c : Option (List ℕ)) (old new more : List ℕ) → new ≡ old ++ more → Consumes a b old → Consumes b c more → Consumes a c new
read_more a b c old new more is first next = subst (Consumes a c) (sym is) (Consumes-trans a b c old more first next)

-- a read that gave nothing at the end: all was read before
pub read_whole : (a b c : Option (List ℕ)) (bs more : List ℕ) → more ≡ [] → Consumes a b bs → Consumes b c more → IsAtEnd c → IfSome a (λ all. bs ≡ all)
read_whole a b c bs more none first next end =
    Consumes-whole a c (bs ++ more) (λ all. bs ≡ all) (Consumes-trans a b c bs more first next) end (sym (ap (λ l. bs ++ l) none ∙ append-nil bs))

-- more was read than the limit
pub read_over : (a b : Option (List ℕ)) (bs : List ℕ) (limit : ℕ) → limit < length bs → Consumes a b bs → IfSome a (λ all. limit < length all)
read_over None b bs limit over took = tt
read_over (Some x) None bs limit over took = absurd took
read_over (Some x) (Some y) bs limit over took = omega (arith, over, ap length took, length-append bs y)

-- memory ran out while it was read
pub read_memory : {A : Type 0} (answer : Result A Refusal) → IsErrAnd answer (λ e. e ≡ out_of_memory) → IfErr answer IsReadFault
read_memory (Ok x) why = tt
read_memory (Err e) why = inl why

-- bytes that weren't read give no units
pub no_bytes : {A : Type 0} (left : Option (List ℕ)) (failed : Bool) (r : Refusal) (answer : Result Units Refusal) → answer ≡ Err r → IsReadFault r
    → (◌≡◌ {A = Result A Refusal} (Err r) (Err refusal.TooLarge) → ReadsTooMany left 1048576) → (◌≡◌ {A = Result A Refusal} (Err r) (Err refusal.Read) → failed ≡ true) → failed ≡ false → IfSome left (AnswersUnits answer)
no_bytes None failed r answer is why large unread kept = tt
no_bytes (Some bytes) failed r answer is (inl memory) large unread kept = rw is (inl memory)
no_bytes (Some bytes) failed r answer is (inr (inl read)) large unread kept = absurd (true≢false (sym (unread (ap (λ e. Err e) read)) ∙ kept))
no_bytes (Some bytes) failed r answer is (inr (inr many)) large unread kept = rw is (inr (inr (large (ap (λ e. Err e) many), many)))

-- a text that says no units
fault_units : (bytes : List ℕ) (f : UnitFault) → length bytes ≤ 1048576 → Fails f (reading bytes) → AnswersUnits (Err (refusal.Unit f)) bytes
fault_units bytes fault.OutOfMemory few is = inl refl
fault_units bytes f few is = inr (inl (few, (f, is, refl)))

pub false_text : (left : Option (List ℕ)) (bytes : List ℕ) (f : UnitFault) (answer : Result Units Refusal) → answer ≡ Err (refusal.Unit f) → ReadsAll left 1048576 bytes → Fails f (reading bytes) → IfSome left (AnswersUnits answer)
false_text None bytes f answer is all why = tt
false_text (Some left) bytes f answer is all why = rw is (subst (AnswersUnits (Err (refusal.Unit f))) all.1 (fault_units bytes f all.0 why))

-- a text that says units
pub right_text : (left : Option (List ℕ)) (bytes : List ℕ) (us : Units) → ReadsAll left 1048576 bytes → reading bytes ≡ Ok (units_view us) → IfSome left (AnswersUnits (Ok us))
right_text None bytes us all is = tt
right_text (Some left) bytes us all is = subst (AnswersUnits (Ok us)) all.1 (all.0, is)

pub valid_text : (left : Option (List ℕ)) (bytes : List ℕ) → ReadsAll left 1048576 bytes → IsValidText bytes → IfSome left AreUnits
valid_text None bytes all valid = tt
valid_text (Some left) bytes all valid = subst AreUnits all.1 (all.0, valid)

-- a call that failed to read is refused so
pub read_refused : {A B : Type 0} (answer : Result B Refusal) (r : Refusal) → answer ≡ Err r → ◌≡◌ {A = Result A Refusal} (Err r) (Err refusal.Read) → answer ≡ Err refusal.Read
read_refused answer r is read = is ∙ ap (λ e. Err e) cc

-- the certificate is touched for units alone
pub cert_unread : {A : Type 0} (left : Option (List ℕ)) (P : List ℕ → Type 0) (cert : A) → IfSome left (λ bytes. P bytes → cert ≡ cert)
cert_unread None P cert = tt
cert_unread (Some bytes) P cert = λ _. refl

pub cert_after : {A : Type 0} (left : Option (List ℕ)) (new old : A) → IfSome left AreUnits → IfSome left (λ bytes. ¬ (AreUnits bytes) → new ≡ old)
cert_after None new old units = tt
cert_after (Some bytes) new old units = λ none. absurd (none units)

-- units that aren't there
no_units : (left text : Option (List ℕ)) (r : Refusal) → IfSome left (AnswersUnits (Err r)) → IfSome left (λ bytes. IfSome text (λ t. IsInputFault bytes t r))
no_units None text r h = tt
no_units (Some bytes) None r h = tt
no_units (Some bytes) (Some t) r (inl memory) = inl (inl memory)
no_units (Some bytes) (Some t) r (inr fault) = inr (inl fault)

pub unread_units : {A : Type 0} (left text : Option (List ℕ)) (r : Refusal) (answer : Result A Refusal) → answer ≡ Err r → IfSome left (AnswersUnits (Err r)) → IfErr answer (λ e. IfSome left (λ bytes. IfSome text (λ t. IsInputFault bytes t e)))
unread_units left text r answer is h = rw is (no_units left text r h)

-- no room to check
pub no_room : (left text : Option (List ℕ)) → IfSome left (λ bytes. IfSome text (λ t. IsInputFault bytes t check_memory))
no_room None text = tt
no_room (Some bytes) None = tt
no_room (Some bytes) (Some t) = inl (inr refl)

-- a text of too many bytes, or want of memory
no_text : (left text : Option (List ℕ)) (us : Units) (r : Refusal) → IfSome left (AnswersUnits (Ok us)) → ((r ≡ out_of_memory) ⊎ ((r ≡ refusal.Cert cert.TooLarge) × ReadsTooMany text 67108864))
    → IfSome left (λ bytes. IfSome text (λ t. IsInputFault bytes t r))
no_text None text us r read why = tt
no_text (Some bytes) None us r read why = tt
no_text (Some bytes) (Some t) us r read (inl memory) = inl (inl memory)
no_text (Some bytes) (Some t) us r read (inr large) = inr (inr (us, read, large.0, large.1))

pub unread_text : {A : Type 0} (left text : Option (List ℕ)) (us : Units) (r : Refusal) (answer : Result A Refusal) → answer ≡ Err r → IfSome left (AnswersUnits (Ok us))
    → ((r ≡ out_of_memory) ⊎ ((r ≡ refusal.Cert cert.TooLarge) × ReadsTooMany text 67108864)) → IfErr answer (λ e. IfSome left (λ bytes. IfSome text (λ t. IsInputFault bytes t e)))
unread_text left text us r answer is read why = rw is (no_text left text us r read why)

-- ---- for some text, where the bytes of the certificate aren't known

abbrev SomeFault : Option (List ℕ) → Refusal → Type 0
SomeFault left r = IfSome left (λ bytes. (r ≡ refusal.Read) ⊎ ((text : List ℕ) × IsInputFault bytes text r))

longer : (n : ℕ) → (text : List ℕ) × (n < length text)
longer n = (replicate (suc n) 0, omega (arith, length-replicate {A = ℕ} (suc n) 0))

some_units : (left : Option (List ℕ)) (r : Refusal) → IfSome left (AnswersUnits (Err r)) → SomeFault left r
some_units None r h = tt
some_units (Some bytes) r (inl memory) = inr ([], inl (inl memory))
some_units (Some bytes) r (inr fault) = inr ([], inr (inl fault))

pub some_unread : {A : Type 0} (left : Option (List ℕ)) (r : Refusal) (answer : Result A Refusal) → answer ≡ Err r → IfSome left (AnswersUnits (Err r)) → IfErr answer (SomeFault left)
some_unread left r answer is h = rw is (some_units left r h)

some_text : (left : Option (List ℕ)) (us : Units) (r : Refusal) → IfSome left (AnswersUnits (Ok us)) → ((r ≡ refusal.Read) ⊎ ((r ≡ out_of_memory) ⊎ (r ≡ refusal.Cert cert.TooLarge))) → SomeFault left r
some_text None us r read why = tt
some_text (Some bytes) us r read (inl unread) = inl unread
some_text (Some bytes) us r read (inr (inl memory)) = inr ([], inl (inl memory))
some_text (Some bytes) us r read (inr (inr large)) = let long = longer 67108864 in inr (long.0, inr (inr (us, read, large, long.1)))

text_kind : {A : Type 0} (failed : Bool) (r : Refusal) (text : Option (List ℕ)) → (failed ≡ false → (r ≡ out_of_memory) ⊎ ((r ≡ refusal.Cert cert.TooLarge) × ReadsTooMany text 67108864)) → (failed ≡ true → ◌≡◌ {A = Result A Refusal} (Err r) (Err refusal.Read))
    → (r ≡ refusal.Read) ⊎ ((r ≡ out_of_memory) ⊎ (r ≡ refusal.Cert cert.TooLarge))
text_kind true r text err read = let e = read refl in inl cc
text_kind false r text err read = elim (err refl) [ inl memory ↦ inr (inl memory) | inr large ↦ inr (inr large.0) ]

pub some_text_unread : {A B : Type 0} (left text : Option (List ℕ)) (us : Units) (failed : Bool) (r : Refusal) (answer : Result A Refusal) → answer ≡ Err r → IfSome left (AnswersUnits (Ok us))
    → (failed ≡ false → (r ≡ out_of_memory) ⊎ ((r ≡ refusal.Cert cert.TooLarge) × ReadsTooMany text 67108864)) → (failed ≡ true → ◌≡◌ {A = Result B Refusal} (Err r) (Err refusal.Read)) → IfErr answer (SomeFault left)
some_text_unread {A} {B} left text us failed r answer is units err read = rw is (some_text left us r units (text_kind {A = B} failed r text err read))

-- the same of what is read
pub some_read : (left : Option (List ℕ)) (r : Refusal) (answer : Result Inputs Refusal) → answer ≡ Err r → SomeFault left r → IfSome left (λ bytes. (answer ≡ Err refusal.Read) ⊎ ((text : List ℕ) × AreRead bytes (Some text) answer))
some_read None r answer is h = tt
some_read (Some bytes) r answer is (inl unread) = inl (is ∙ ap (λ e. Err e) unread)
some_read (Some bytes) r answer is (inr h) = inr (h.0, rw is h.1)
