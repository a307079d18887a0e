use Rattle.std.proofs.Common.{◌≡◌}
use Rattle.ec_wire.specs.Stream.{stream, has_failed}
use Rattle.ec_cert_text.specs.Text.{index_word}
use Rattle.ec_cert_text.proofs.WriteLemmas.{IsWritten}
use Rattle.ec_cert_text.proofs.writing.write_weight_words.Given as goal

abbrev pub invariant-words : goal.invariant-words
invariant-words g l = record {
  text : IsWritten index_word (g.W.Write.contents (stream l.initial.io)) l.initial.waiting.bytes.items (g.W.Write.contents (stream l.io)) l.waiting.bytes.items l.weights l.weight-index;
  same : has_failed l.io ≡ has_failed l.initial.io;
}
