use Rattle.std.proofs.Common.{length, ◌/◌, ◌∙◌, ◌∷◌, [], ◌++◌, ◌+◌, lit<, ap, sym, arith, append_assoc, length-append, ◌%◌}
use Rattle.std.specs.Fmt.{decimal}
use Rattle.ec_text_line.proofs.DecimalLemmas.{digits_step}
use Rattle.ec_text_line.proofs.line.+push_decimal.Goals as goal

pub push-requires-2 : goal.push-requires-2
push-requires-2 t c =
    let step = (digits_step c.args.number (omega arith)).2 c.if-number-lt10.false in
    (lit< tt, omega (arith, step.1, ap length c.push_decimal.ensures, length-append c.args.line.now.items (decimal (c.args.number / 10))))

pub returns : goal.returns
returns t c =
    let step = (digits_step c.args.number (omega arith)).2 c.if-number-lt10.false in
    c.push-2.ensures.items ∙ ap (λ l. l ++ (48 + c.args.number % 10) ∷ []) c.push_decimal.ensures ∙ append_assoc c.args.line.now.items (decimal (c.args.number / 10)) ((48 + c.args.number % 10) ∷ []) ∙ ap (λ l. c.args.line.now.items ++ l) (sym step.0)
