-- What is read.
use Rattle.std.specs.Prelude.{◌≡◌, ◌⊎◌, ℕ, ◌+◌, ◌<◌, ◌≤◌, List, length, Option, Some, None, Result, Ok, Err, IfSome, option_map}
use Rattle.std.specs.Io.KnownBytes.{Consumes}
use Rattle.ec_cert_text.specs.declared.fault.CertFault.TheVariants as cert
use Rattle.ec_units.specs.declared.units.Units.{Units}
use Rattle.ec_unit_text.specs.Reading.{reading, IsValidText}
use Rattle.ec_units.specs.Views.{units_view}
use Rattle.ec_units.specs.Load.{loads_of}
use Rattle.ec_loads.specs.Held.{no_places}
use Rattle.ec_wire.specs.Stream.{taken}
use Rattle.ec_cli_inputs.specs.Use.{Use, before, after, IsSound, HasFailed, IsKept, Lent, IfLent, HasNotFailed, IfGiven}
use Rattle.ec_cli_inputs.specs.declared.input.Given.{Given}
use Rattle.ec_cli_inputs.specs.declared.input.Inputs.{Inputs}
use Rattle.ec_cli_refusals.specs.declared.refusal.Refusal.{Refusal}
use Rattle.ec_cli_refusals.specs.declared.refusal.Refusal.TheVariants as refusal
use Rattle.ec_cli_refusals.specs.Refusals.{IsUnitsFault, out_of_memory, check_memory}

-- what is read is all that was left, and no more than the limit
abbrev pub ReadsAll : Option (List ℕ) → ℕ → List ℕ → Type 0
ReadsAll left limit bytes = (length bytes ≤ limit) × IfSome left (λ all. bytes ≡ all)

-- more was left than the limit
abbrev pub ReadsTooMany : Option (List ℕ) → ℕ → Type 0
ReadsTooMany left limit = IfSome left (λ all. limit < length all)

-- no more known bytes are taken than this
abbrev pub ConsumesAtMost : Option (List ℕ) → Option (List ℕ) → ℕ → Type 0
ConsumesAtMost old new most = (bytes : List ℕ) × (length bytes ≤ most) × Consumes old new bytes

-- bytes are a valid unit text of at most 1,048,576 bytes
abbrev pub AreUnits : List ℕ → Type 0
AreUnits bytes = (length bytes ≤ 1048576) × IsValidText bytes

-- the units that bytes say, or why they say none, which may be want of memory
abbrev pub AnswersUnits : Result Units Refusal → List ℕ → Type 0
AnswersUnits (Ok us) bytes = (length bytes ≤ 1048576) × (reading bytes ≡ Ok (units_view us))
AnswersUnits (Err r) bytes = (r ≡ out_of_memory) ⊎ IsUnitsFault bytes r

-- why the bytes of units and the text of a certificate give nothing to check: memory ran out over them or over the room to check, the bytes give no units, or
-- they do and the text has too many bytes
abbrev pub IsInputFault : List ℕ → List ℕ → Refusal → Type 0
IsInputFault bytes text r =
    ((r ≡ out_of_memory) ⊎ (r ≡ check_memory))
    ⊎ (IsUnitsFault bytes r ⊎ ((us : Units) × AnswersUnits (Ok us) bytes × (r ≡ refusal.Cert cert.TooLarge) × (67108864 < length text)))

-- why bytes give no units to work on, which may be want of memory
abbrev pub IsAloneFault : List ℕ → Refusal → Type 0
IsAloneFault bytes r = (r ≡ out_of_memory) ⊎ IsUnitsFault bytes r

-- why the bytes of units, and of a certificate where there is one, give no inputs
abbrev pub IsUnread : List ℕ → Option (List ℕ) → Refusal → Type 0
IsUnread bytes None r = IsAloneFault bytes r
IsUnread bytes (Some text) r = IsInputFault bytes text r

-- the text of the certificate, where there is one
abbrev pub text_given : Inputs → Option (List ℕ)
text_given i = option_map (λ (g : Given). g.text.items) i.given

-- the inputs say what the bytes of units say, and have the text of the certificate where there is one
abbrev pub Says : List ℕ → Option (List ℕ) → Inputs → Type 0
Says bytes cert i = AnswersUnits (Ok i.units) bytes × (text_given i ≡ cert)

-- what is read of the bytes of units, and of a certificate where there is one
abbrev pub AreRead : List ℕ → Option (List ℕ) → Result Inputs Refusal → Type 0
AreRead bytes cert (Ok i) = Says bytes cert i
AreRead bytes cert (Err r) = IsUnread bytes cert r

-- the room to check a certificate is that of the units, with no place
abbrev pub HasRoom : Inputs → Type 0
HasRoom i = IfSome i.given (λ (g : Given). g.loads ≡ record { loads = loads_of i.units.units; slots = i.units.slots; places = no_places (loads_of i.units.units) })

-- ---- how the readers are used

-- the most bytes that are read of units, and of a certificate: one more than they may have
abbrev pub most_of_units : ℕ
most_of_units = 1048577

abbrev pub most_of_cert : ℕ
most_of_cert = 67108865

-- at most this many bytes are read, of those that are told and of any; where a read fails, it is refused
pub record ReadsUpTo {X : Type 0} (s : Use X) (most : ℕ) (refused : Type 0) : Type 0 where
  pub known : ConsumesAtMost (before s) (after s) most
  pub any : taken s.new ≤ taken s.old + most
  pub failed : HasFailed s → refused

-- the certificate isn't read before the units are right
pub record ReadsBoth {R C : Type 0} (units : Use R) (cert : Use C) (refused : Type 0) : Type 0 where
  pub units_read : ReadsUpTo units most_of_units refused
  pub cert_read : ReadsUpTo cert most_of_cert refused
  pub kept : HasFailed units → IsKept cert
  pub first : IfSome (before units) (λ bytes. ¬ (AreUnits bytes) → IsKept cert)

-- what is read of units, and of a certificate where one is lent: of the bytes that the readers had; of a certificate whose bytes aren't known, of some text (`some`)
pub record ReadsInputs {R C : Type 0} (units : Use R) (cert : Lent C) (read : Result Inputs Refusal) : Type 0 where
  pub units_read : ReadsUpTo units most_of_units (read ≡ Err refusal.Read)
  pub cert_read : IfLent cert (Unit {0}) (λ c. ReadsBoth units c (read ≡ Err refusal.Read))
  pub told : IsSound units → HasNotFailed cert → IfSome (before units) (λ bytes. IfGiven cert (λ text. AreRead bytes text read))
  pub some : IsSound units → IfLent cert (Unit {0}) (λ c. IfSome (before units) (λ bytes. (read ≡ Err refusal.Read) ⊎ ((text : List ℕ) × AreRead bytes (Some text) read)))
