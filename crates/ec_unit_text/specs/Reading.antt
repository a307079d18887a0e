-- What reading a unit text gives.
use Rattle.std.specs.Prelude.{◌≡◌, ℕ, if◌then◌else◌, List, [], Option, Some, None, Result, Ok, Err}
use Rattle.std.specs.Str.{is_utf8}
use Rattle.toml.specs.Data.{Members}
use Rattle.toml.specs.Parse.{parse_document}
use Rattle.ec_unit_text.specs.declared.fault.UnitFault.{UnitFault}
use Rattle.ec_unit_text.specs.declared.fault.UnitFault.TheVariants as fault
use Rattle.ec_unit_text.specs.UnitText.{first, unit_faults}
use Rattle.ec_units.specs.Views.{UnitsView}
use Rattle.ec_unit_text.specs.Said.{units_of}

-- the document that bytes are
abbrev pub document : List ℕ → Option Members
document text = if is_utf8 text then parse_document text else None

-- a document without a fault says these units
abbrev pub SaysUnits : Option Members → UnitsView → Type 0
SaysUnits None units = ⊥
SaysUnits (Some ms) units = (unit_faults ms ≡ []) × (units ≡ units_of ms)

-- the least fault of a document, or of bytes that are none
abbrev pub IsLeastFault : Option Members → UnitFault → Type 0
IsLeastFault None f = f ≡ fault.NotToml
IsLeastFault (Some ms) f = first (unit_faults ms) ≡ Some f

abbrev pub IsFaultless : Option Members → Type 0
IsFaultless None = ⊥
IsFaultless (Some ms) = unit_faults ms ≡ []

-- a text is valid: it is a document, and nothing is wrong with it
abbrev pub IsValidText : List ℕ → Type 0
IsValidText text = IsFaultless (document text)

-- a document, or the fault of what is none
abbrev pub told : Option Members → Result Members UnitFault
told None = Err fault.NotToml
told (Some ms) = Ok ms

-- the units of a document, or its first fault
abbrev pub judged : Members → Option UnitFault → Result UnitsView UnitFault
judged ms None = Ok (units_of ms)
judged ms (Some f) = Err f

abbrev pub reading_from : Result Members UnitFault → Result UnitsView UnitFault
reading_from (Err f) = Err f
reading_from (Ok ms) = judged ms (first (unit_faults ms))

-- what reading a text gives: its units, or its least fault
unfoldable pub reading : List ℕ → Result UnitsView UnitFault
reading text = reading_from (told (document text))

-- the error is want of memory, or this reading's fault
abbrev pub Fails : {Y : Type 0} → UnitFault → Result Y UnitFault → Type 0
Fails fault.OutOfMemory read = Unit {0}
Fails f read = read ≡ Err f

-- what a function returned, seen by view, is what reading gives, unless memory ran out
abbrev pub Gives : {X Y : Type 0} → (X → Y) → Result X UnitFault → Result Y UnitFault → Type 0
Gives view (Ok x) read = read ≡ Ok (view x)
Gives view (Err e) read = Fails e read
