use Rattle.std.proofs.Common.{◌≡◌}
use Rattle.ec_wire.specs.Stream.{stream, has_failed}
use Rattle.ec_cert_text.specs.Text.{pair_words}
use Rattle.ec_cert_text.proofs.WriteLemmas.{IsWritten}
use Rattle.ec_cert_text.proofs.writing.write_pair_words.Given as goal

abbrev pub invariant-words : goal.invariant-words
invariant-words g l = record {
  text : IsWritten pair_words (g.W.Write.contents (stream l.initial.io)) l.initial.waiting.bytes.items (g.W.Write.contents (stream l.io)) l.waiting.bytes.items l.pairs l.pair-index;
  same : has_failed l.io ≡ has_failed l.initial.io;
}
