use Rattle.std.proofs.Common.{sym, rules}
use Rattle.ec_cert_text.specs.Reading.{are_numbers}
use Rattle.ec_cert_text.proofs.ManyLemmas.{numbers_go_on}
use Rattle.ec_cert_text.proofs.indexes.are_numbers.Goals as goal

pub words-preserved : goal.words-preserved
words-preserved c =
    numbers_go_on c.args.more c.words.counter c.words.rest.now c.in-Some.word.now c.in-Some.after.now (are_numbers c.args.more c.args.text.now) c.words-test.true (sym c.in-Some.ensures.parts) (search rules) c.words.invariant
