use Rattle.std.proofs.Common.{◌≡◌, get_or, rules}
use Rattle.ec_loads.specs.declared.pair.Pair.{Pair}
use Rattle.ec_cert_text.specs.Text.{pair_words}
use Rattle.ec_cert_text.proofs.WriteLemmas.{written_none, written_more, written_front, written_all, front_all}
use Rattle.ec_cert_text.proofs.writing.write_pair_words.Goals as goal

abbrev no_pair : Pair
no_pair = record { count = 0; room = 0 }

pub words-init : goal.words-init
words-init g c = record {
  text = written_none pair_words c.args.pairs.now;
  same = search rules;
}

pub returns-in_err-write-clause-front : goal.returns-in_err-write-clause-front
returns-in_err-write-clause-front g c =
    let text : c.as_slice.result.now ≡ pair_words (get_or c.args.pairs.now c.words.pair-index no_pair) = search rules in
    written_front pair_words c.args.pairs.now c.words.pair-index no_pair _ c.words-test.true text c.words.invariant.text c.write.ensures.front

pub words-preserved : goal.words-preserved
words-preserved g c =
    let text : c.as_slice.result.now ≡ pair_words (get_or c.args.pairs.now c.words.pair-index no_pair) = search rules in
    record {
      text = written_more pair_words c.args.pairs.now c.words.pair-index no_pair _ c.words-test.true text c.words.invariant.text c.in_ok-write.ensures.all;
      same = search rules;
    }

pub returns-clause-all : goal.returns-clause-all
returns-clause-all g c = written_all pair_words c.args.pairs.now c.words.pair-index c.words-test.false c.words.invariant.text

pub returns-clause-front : goal.returns-clause-front
returns-clause-front g c = front_all (written_all pair_words c.args.pairs.now c.words.pair-index c.words-test.false c.words.invariant.text)
