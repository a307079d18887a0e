use Rattle.std.proofs.Common.{◌≡◌}
use Rattle.ec_wire.specs.Stream.{stream, has_failed}
use Rattle.ec_cert_text.proofs.WriteLemmas.{AreWritten}
use Rattle.ec_cert_text.proofs.writing.+nodes.Given as goal

abbrev pub invariant-write_nodes-children : goal.invariant-write_nodes-children
invariant-write_nodes-children g l = record {
  text : AreWritten (g.W.Write.contents (stream l.initial.io)) l.initial.waiting.bytes.items (g.W.Write.contents (stream l.io)) l.waiting.bytes.items l.tree-items l.tree-index;
  same : has_failed l.io ≡ has_failed l.initial.io;
}
