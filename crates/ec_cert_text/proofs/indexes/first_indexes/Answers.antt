use Rattle.std.proofs.Common.{◌≡◌, ◌++◌, ◌∷◌, []}
use Rattle.std.proofs.lemmas.Result.{err_from_is_err_and}
use Rattle.ec_cert_text.specs.Reading.{index_in, many_from}
use Rattle.ec_cert_text.proofs.ManyLemmas.{goes_on, ends, many_begin, many_end}
use Rattle.ec_cert_text.proofs.indexes.first_indexes.Goals as goal

pub returns-in_err-index : goal.returns-in_err-index
returns-in_err-index c =
    let p = err_from_is_err_and c.from_residual.result c.from_residual.ensures.1 in
    rw (p.1, p.2) (ends (index_in c.args.line c.args.high) c.in_err-index.field-0.0 c.words.indexes.items c.args.high c.words.counter c.words.rest.now (many_from (index_in c.args.line c.args.high) c.args.high c.args.text.now) c.words-test.true c.in_err-index.ensures.value c.words.invariant)

pub words-preserved : goal.words-preserved
words-preserved c =
    let e : c.push.new.self.items ≡ c.words.indexes.items ++ c.in_ok-index.index ∷ [] = c.in_ok-push.ensures.items in
    rw e (goes_on (index_in c.args.line c.args.high) c.words.indexes.items c.args.high c.words.counter c.words.rest.now c.in_ok-index.index c.in_ok-index.after.now (many_from (index_in c.args.line c.args.high) c.args.high c.args.text.now) c.words-test.true c.in_ok-index.ensures.value c.words.invariant)

pub words-init : goal.words-init
words-init c = many_begin (index_in c.args.line c.args.high) c.new-indexes.result.items c.args.high c.args.text.now c.new-indexes.ensures.items

pub returns : goal.returns
returns c = many_end (index_in c.args.line c.args.high) c.words.indexes.items c.args.high c.words.counter c.words.rest.now (many_from (index_in c.args.line c.args.high) c.args.high c.args.text.now) c.words-test.false c.words.invariant
