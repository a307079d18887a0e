use Rattle.std.proofs.Common.{rules}
use Rattle.ec_workers.proofs.certify.certificate.Goals as goal

pub returns : goal.returns
returns c = search rules
