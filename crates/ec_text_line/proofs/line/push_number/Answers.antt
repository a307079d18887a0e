use Rattle.std.proofs.Common.{length, ap, arith, length-append}
use Rattle.std.specs.Fmt.{decimal}
use Rattle.ec_text_line.proofs.DecimalLemmas.{digits_fit}
use Rattle.ec_text_line.proofs.line.push_number.Goals as goal

pub returns-clause-len : goal.returns-clause-len
returns-clause-len c = omega (arith, ap length c.push_decimal.ensures, length-append c.args.line.now.items (decimal c.args.number), digits_fit c.args.number (omega arith))
