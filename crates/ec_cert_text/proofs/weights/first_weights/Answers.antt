use Rattle.std.proofs.Common.{◌≡◌, ◌++◌, ◌∷◌, []}
use Rattle.std.proofs.lemmas.Result.{err_from_is_err_and}
use Rattle.ec_cert_text.specs.Reading.{index_in, many_from}
use Rattle.ec_cert_text.proofs.ManyLemmas.{goes_on, ends, many_begin, many_end}
use Rattle.ec_cert_text.proofs.weights.first_weights.Goals as goal

pub returns-in_err-weight : goal.returns-in_err-weight
returns-in_err-weight c =
    let p = err_from_is_err_and c.from_residual.result c.from_residual.ensures.1 in
    rw (p.1, p.2) (ends (index_in c.args.line 65535) c.in_err-weight.field-0.0 c.words.weights.items c.args.more c.words.counter c.words.rest.now (many_from (index_in c.args.line 65535) c.args.more c.args.text.now) c.words-test.true c.in_err-weight.ensures.value c.words.invariant)

pub words-preserved : goal.words-preserved
words-preserved c =
    let e : c.push.new.self.items ≡ c.words.weights.items ++ c.in_ok-weight.weight ∷ [] = c.in_ok-push.ensures.items in
    rw e (goes_on (index_in c.args.line 65535) c.words.weights.items c.args.more c.words.counter c.words.rest.now c.in_ok-weight.weight c.in_ok-weight.after.now (many_from (index_in c.args.line 65535) c.args.more c.args.text.now) c.words-test.true c.in_ok-weight.ensures.value c.words.invariant)

pub words-init : goal.words-init
words-init c = many_begin (index_in c.args.line 65535) c.new-weights.result.items c.args.more c.args.text.now c.new-weights.ensures.items

pub returns : goal.returns
returns c = many_end (index_in c.args.line 65535) c.words.weights.items c.args.more c.words.counter c.words.rest.now (many_from (index_in c.args.line 65535) c.args.more c.args.text.now) c.words-test.false c.words.invariant
