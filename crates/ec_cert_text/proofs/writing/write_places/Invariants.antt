use Rattle.std.proofs.Common.{◌≡◌}
use Rattle.ec_wire.specs.Stream.{stream, has_failed}
use Rattle.ec_cert_text.specs.Text.{place_line}
use Rattle.ec_cert_text.proofs.WriteLemmas.{IsWritten}
use Rattle.ec_cert_text.proofs.writing.write_places.Given as goal

abbrev pub invariant-places : goal.invariant-places
invariant-places g l = record {
  text : IsWritten place_line (g.W.Write.contents (stream l.initial.io)) l.initial.waiting.bytes.items (g.W.Write.contents (stream l.io)) l.waiting.bytes.items l.places l.place-index;
  same : has_failed l.io ≡ has_failed l.initial.io;
}
