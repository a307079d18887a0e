use Rattle.std.proofs.Common.{Ok, Err, rules}
use Rattle.std.proofs.lemmas.Result.{err_from_is_err_and}
use Rattle.ec_cert_text.proofs.KindLemmas.{says_unit}
use Rattle.ec_cert_text.proofs.head.unit_in.Goals as goal

pub returns-in_err-bytes-in-Some-clause-value : goal.returns-in_err-bytes-in-Some-clause-value
returns-in_err-bytes-in-Some-clause-value c =
    let p = err_from_is_err_and c.from_residual.result c.from_residual.ensures.1 in
    rw (p.1, p.2) (says_unit c.args.line.now c.in-Some.name.now c.in-Some.numbers.now (Err c.in_err-bytes-in-Some.field-0.0) (search rules) c.in-Some.ensures.parts (search rules) c.in_err-bytes-in-Some.ensures.value)

pub returns-in_ok-bytes-in-Some-clause-value : goal.returns-in_ok-bytes-in-Some-clause-value
returns-in_ok-bytes-in-Some-clause-value c = says_unit c.args.line.now c.in-Some.name.now c.in-Some.numbers.now (Ok (c.in_ok-bytes-in-Some.bytes, c.in_ok-bytes-in-Some.period)) (search rules) c.in-Some.ensures.parts (search rules) c.in_ok-bytes-in-Some.ensures.value
