use Rattle.std.proofs.Common.{rules, ◌∙◌, Err, ap}
use Rattle.std.proofs.lemmas.Result.{err_from_is_err_and}
use Rattle.ec_cli_inputs.proofs.InputLemmas.{some_read}
use Rattle.ec_cli_inputs.proofs.input.read_both.Goals as goal

pub returns-in_err-units-clause-read : goal.returns-in_err-units-clause-read
returns-in_err-units-clause-read g c =
    let p = err_from_is_err_and c.from_residual.result c.from_residual.ensures.1 in
    record {
      units_read = search rules;
      cert_read = search rules;
      told = search rules;
      some = λ sound. some_read _ c.in_err-units.field-0.0 c.from_residual.result (p.1 ∙ ap (λ e. Err e) p.2) (c.in_err-units.ensures.some sound);
    }
