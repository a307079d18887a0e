use Rattle.std.proofs.Common.{rules}
use Rattle.ec_cert_text.proofs.buffer.Waiting.flush.Goals as goal

pub returns-clause-empty : goal.returns-clause-empty
returns-clause-empty g c = search rules
