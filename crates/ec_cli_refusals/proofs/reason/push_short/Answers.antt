use Rattle.std.proofs.Common.{length, ap, arith, length-append}
use Rattle.std.specs.Fmt.{decimal}
use Rattle.ec_cli_refusals.proofs.KeyLemmas.{short_fits}
use Rattle.ec_cli_refusals.proofs.reason.push_short.Goals as goal

pub returns-clause-len : goal.returns-clause-len
returns-clause-len c =
    let n = c.from.result in
    let fits = short_fits n (omega (arith, c.from.ensures, c.ranges.number.fits)) in
    omega (arith, ap length c.push_number.ensures.items, length-append c.push_bytes.new.line.items (decimal n), fits, c.push_bytes.ensures.len)
