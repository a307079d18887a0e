use Rattle.std.proofs.Common.{rules, ◌∙◌, arith}
use Rattle.std.proofs.lemmas.Grind.{common_steps}
use Rattle.ec_cert_text.proofs.NumberLemmas.{capped_more}
use Rattle.ec_cert_text.proofs.words.number.Goals as goal

pub loop-byte-preserved : goal.loop-byte-preserved
loop-byte-preserved c = record {
  digits = grind (arith, common_steps);
  value = rw (c.min-value.ensures, c.from.ensures) (capped_more _ _ _ _ c.loop-byte-test.true ∙ c.loop-byte.invariant.value);
  small = search rules;
}

pub returns-clause-value : goal.returns-clause-value
unfolding Rattle.ec_cert_text.specs.Reading.number_in
returns-clause-value c = grind (arith, common_steps)
