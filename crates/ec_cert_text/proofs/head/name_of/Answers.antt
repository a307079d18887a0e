use Rattle.ec_cert_text.proofs.NameLemmas.{IsUtf8-from_is_name}
use Rattle.ec_cert_text.proofs.head.name_of.Goals as goal

pub unreachable-requires : goal.unreachable-requires
unreachable-requires c = c.in-Err.ensures.cases.0 (IsUtf8-from_is_name c.args.bytes.now c.requires)
