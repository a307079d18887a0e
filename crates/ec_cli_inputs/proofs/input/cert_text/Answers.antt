use Rattle.std.proofs.Common.{rules}
use Rattle.ec_cli_inputs.proofs.input.cert_text.Goals as goal

pub returns-in-Err-TooLarge-clause-err : goal.returns-in-Err-TooLarge-clause-err
returns-in-Err-TooLarge-clause-err g c = search rules
