-- From a text to its document.
use Rattle.std.proofs.Common.{◌≡◌, ◌≢◌, ℕ, Bool, true, false, cond, List, [], ◌∷◌, Option, Some, None, Result, Ok, Err, IfOk, IfErr, refl, ap}
use Rattle.std.specs.Str.{IsUtf8, is_utf8}
use Rattle.std.proofs.lemmas.Str.{is_utf8-from_IsUtf8, IsUtf8-from_is_utf8}
use Rattle.toml.specs.Data.{Members}
use Rattle.toml.specs.Parse.{parse_document}
use Rattle.ec_unit_text.specs.declared.fault.UnitFault.{UnitFault}
use Rattle.ec_unit_text.specs.declared.fault.UnitFault.TheVariants as fault
use Rattle.ec_units.specs.declared.units.Units.{Units}
use Rattle.ec_unit_text.specs.UnitText.{first, unit_faults}
use Rattle.ec_units.specs.Views.{UnitsView, units_view}
use Rattle.ec_unit_text.specs.Said.{units_of}
use Rattle.ec_unit_text.specs.Reading.{document, told, judged, reading_from, reading, Fails, Gives, SaysUnits, IsLeastFault, IsFaultless, IsValidText}

pub document_ok : (text : List ℕ) (ms : Members) → IsUtf8 text → parse_document text ≡ Some ms → document text ≡ Some ms
document_ok text ms u e = rw (is_utf8-from_IsUtf8 text u) e

none_from : (b : Bool) (text : List ℕ) → is_utf8 text ≡ b → (IsUtf8 text → parse_document text ≡ None) → cond b (parse_document text) None ≡ None
none_from true text e h = h (IsUtf8-from_is_utf8 text e)
none_from false text e h = refl

pub document_none : (text : List ℕ) → (IsUtf8 text → parse_document text ≡ None) → document text ≡ None
document_none text h = none_from (is_utf8 text) text refl h

none_first : (faults : List UnitFault) → first faults ≡ None → faults ≡ []
none_first [] h = refl
none_first (f ∷ faults) h = cc

says_judged : (ms : Members) (o : Option UnitFault) (units : UnitsView) → first (unit_faults ms) ≡ o → judged ms o ≡ Ok units → (unit_faults ms ≡ []) × (units ≡ units_of ms)
says_judged ms None units e h = (none_first (unit_faults ms) e, cc)
says_judged ms (Some f) units e h = cc

says : (d : Option Members) (units : UnitsView) → reading_from (told d) ≡ Ok units → SaysUnits d units
says None units h = cc
says (Some ms) units h = says_judged ms (first (unit_faults ms)) units refl h

fails_judged : (ms : Members) (o : Option UnitFault) (f : UnitFault) → first (unit_faults ms) ≡ o → judged ms o ≡ Err f → first (unit_faults ms) ≡ Some f
fails_judged ms None f e h = cc
fails_judged ms (Some g) f e h = cc

fails : (d : Option Members) (f : UnitFault) → reading_from (told d) ≡ Err f → IsLeastFault d f
fails None f h = cc
fails (Some ms) f h = fails_judged ms (first (unit_faults ms)) f refl h

faultless : (d : Option Members) (units : UnitsView) → SaysUnits d units → IsFaultless d
faultless None units h = h
faultless (Some ms) units h = h.0

at_fault : (d : Option Members) (f : UnitFault) → IsLeastFault d f → ¬ IsFaultless d
at_fault None f h valid = valid
at_fault (Some ms) f h valid = cc (h, ap first valid)

-- an error other than want of memory is the fault of the reading
fails_with : {Y : Type 0} (f : UnitFault) (read : Result Y UnitFault) → Fails f read → f ≢ fault.OutOfMemory → read ≡ Err f
fails_with fault.OutOfMemory read h other = absurd (other refl)
fails_with fault.NotToml read h other = h
fails_with (fault.Missing s k) read h other = h
fails_with (fault.WrongType s k) read h other = h
fails_with (fault.UnknownKey s) read h other = h
fails_with fault.NoUnits read h other = h
fails_with fault.TooManyUnits read h other = h
fails_with (fault.BadName s) read h other = h
fails_with (fault.DuplicateName s) read h other = h
fails_with (fault.PeriodRange s) read h other = h
fails_with (fault.SlaveCount s) read h other = h
fails_with (fault.SlaveBytes s) read h other = h
fails_with (fault.UnitTooBig s) read h other = h
fails_with (fault.StationRange s) read h other = h
fails_with (fault.DuplicateStation s) read h other = h
fails_with (fault.AreaRange s) read h other = h
fails_with fault.HyperTooLong read h other = h
fails_with fault.SlotsRange read h other = h
fails_with fault.TickRange read h other = h
fails_with (fault.PlaceRange s) read h other = h
fails_with (fault.PlaceHalf s) read h other = h

-- what is read in plain words
pub read_units_of : (text : List ℕ) (r : Result Units UnitFault) → Gives units_view r (reading text) → IfOk r (λ u. SaysUnits (document text) (units_view u))
unfolding reading
read_units_of text (Ok u) h = says (document text) (units_view u) h
read_units_of text (Err f) h = tt

pub read_valid : (text : List ℕ) (r : Result Units UnitFault) → Gives units_view r (reading text) → IfOk r (λ _. IsValidText text)
unfolding reading
read_valid text (Ok u) h = faultless (document text) (units_view u) (says (document text) (units_view u) h)
read_valid text (Err f) h = tt

pub read_least : (text : List ℕ) (r : Result Units UnitFault) → Gives units_view r (reading text) → IfErr r (λ f. f ≢ fault.OutOfMemory → IsLeastFault (document text) f)
unfolding reading
read_least text (Ok u) h = tt
read_least text (Err f) h = λ other. fails (document text) f (fails_with f (reading_from (told (document text))) h other)

pub read_invalid : (text : List ℕ) (r : Result Units UnitFault) → Gives units_view r (reading text) → IfErr r (λ f. f ≢ fault.OutOfMemory → ¬ IsValidText text)
unfolding reading
read_invalid text (Ok u) h = tt
read_invalid text (Err f) h = λ other. at_fault (document text) f (fails (document text) f (fails_with f (reading_from (told (document text))) h other))
