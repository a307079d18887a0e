use Rattle.std.proofs.Common.{◌≡◌, get_or, arith, inl, inr}
use Rattle.ec_cert_text.proofs.SpelledLaws.{number_spelled, value_more, digits_more}
use Rattle.ec_cert_text.proofs.spelled.spelled_number.Goals as goal

pub returns-then-byte-end : goal.returns-then-byte-end
returns-then-byte-end c =
    let lead : get_or c.args.text.now 0 0 ≡ 48 → c.loop-i.i ≡ 1 = λ z. elim c.if-i-gt1.either [ inl both ↦ omega (arith, both.1) | inr other ↦ absurd (other z) ] in
    (c.loop-i.invariant.small, number_spelled c.loop-i.i c.args.end c.loop-i.value c.args.text.now c.loop-i-test.true (omega arith) c.loop-i.invariant.digits lead c.loop-i.invariant.value (omega arith) c.if-byte-end.true)

pub loop-i-preserved : goal.loop-i-preserved
loop-i-preserved c = record {
  digits = digits_more c.loop-i.i c.args.text.now c.loop-i-test.true c.loop-i.invariant.digits (omega arith) (omega arith);
  value = grind (arith, value_more);
  small = omega arith;
}
