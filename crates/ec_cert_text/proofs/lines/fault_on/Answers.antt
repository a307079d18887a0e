use Rattle.std.proofs.Common.{rules}
use Rattle.ec_cert_text.proofs.lines.fault_on.Goals as goal

pub returns-in-Words : goal.returns-in-Words
returns-in-Words c = search rules
