use Rattle.std.proofs.Common.{◌≡◌, get_or, rules}
use Rattle.ec_cert_text.specs.Text.{index_word}
use Rattle.ec_cert_text.proofs.WriteLemmas.{written_none, written_more, written_front, written_all, front_all}
use Rattle.ec_cert_text.proofs.writing.write_weight_words.Goals as goal

pub words-init : goal.words-init
words-init g c = record {
  text = written_none index_word c.args.weights.now;
  same = search rules;
}

pub returns-in_err-write-clause-front : goal.returns-in_err-write-clause-front
returns-in_err-write-clause-front g c =
    let text : c.as_slice.result.now ≡ index_word (get_or c.args.weights.now c.words.weight-index 0) = search rules in
    written_front index_word c.args.weights.now c.words.weight-index 0 _ c.words-test.true text c.words.invariant.text c.write.ensures.front

pub words-preserved : goal.words-preserved
words-preserved g c =
    let text : c.as_slice.result.now ≡ index_word (get_or c.args.weights.now c.words.weight-index 0) = search rules in
    record {
      text = written_more index_word c.args.weights.now c.words.weight-index 0 _ c.words-test.true text c.words.invariant.text c.in_ok-write.ensures.all;
      same = search rules;
    }

pub returns-clause-all : goal.returns-clause-all
returns-clause-all g c = written_all index_word c.args.weights.now c.words.weight-index c.words-test.false c.words.invariant.text

pub returns-clause-front : goal.returns-clause-front
returns-clause-front g c = front_all (written_all index_word c.args.weights.now c.words.weight-index c.words-test.false c.words.invariant.text)
