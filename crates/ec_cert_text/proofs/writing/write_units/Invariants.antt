use Rattle.std.proofs.Common.{◌≡◌}
use Rattle.ec_wire.specs.Stream.{stream, has_failed}
use Rattle.ec_cert_text.specs.Text.{unit_line}
use Rattle.ec_cert_text.proofs.WriteLemmas.{IsWritten}
use Rattle.ec_cert_text.proofs.writing.write_units.Given as goal

abbrev pub invariant-units : goal.invariant-units
invariant-units g l = record {
  text : IsWritten unit_line (g.W.Write.contents (stream l.initial.io)) l.initial.waiting.bytes.items (g.W.Write.contents (stream l.io)) l.waiting.bytes.items l.units l.unit-index;
  same : has_failed l.io ≡ has_failed l.initial.io;
}
