use Rattle.std.proofs.Common.{Err, ap, sym, subst, ◌∙◌}
use Rattle.std.proofs.lemmas.Result.{err_from_is_err_and}
use Rattle.ec_unit_text.specs.Reading.{reading, IsValidText, Fails}
use Rattle.ec_cli_inputs.proofs.InputLemmas.{no_bytes, false_text, right_text, valid_text}
use Rattle.ec_cli_inputs.proofs.input.units_of.Goals as goal

pub returns-in_err-bytes-clause-told : goal.returns-in_err-bytes-clause-told
returns-in_err-bytes-clause-told g c =
    let p = err_from_is_err_and c.from_residual.result c.from_residual.ensures.1 in
    no_bytes _ _ c.in_err-bytes.field-0.0 c.from_residual.result (p.1 ∙ ap (λ e. Err e) p.2) c.in_err-bytes.ensures.kinds c.in_err-bytes.ensures.large c.in_err-bytes.ensures.read

pub returns-in_err-read_units-clause-told : goal.returns-in_err-read_units-clause-told
returns-in_err-read_units-clause-told g c = λ kept.
    let p = err_from_is_err_and c.from_residual-in_err-read_units.result c.from_residual-in_err-read_units.ensures.1 in
    false_text _ c.in_ok-bytes.bytes.items c.in_err-read_units.field-0.0 c.from_residual-in_err-read_units.result (p.1 ∙ ap (λ e. Err e) p.2) c.in_ok-bytes.ensures.ok (subst (λ l. Fails c.in_err-read_units.field-0.0 (reading l)) c.deref.ensures.value c.in_err-read_units.ensures.reads)

pub returns-clause-told : goal.returns-clause-told
returns-clause-told g c = λ kept. right_text _ c.in_ok-bytes.bytes.items c.in_ok-read_units.field-0 c.in_ok-bytes.ensures.ok (ap reading (sym c.deref.ensures.value) ∙ c.in_ok-read_units.ensures.reads)

pub returns-clause-valid : goal.returns-clause-valid
returns-clause-valid g c = valid_text _ c.in_ok-bytes.bytes.items c.in_ok-bytes.ensures.ok (subst IsValidText c.deref.ensures.value c.in_ok-read_units.ensures.valid)
