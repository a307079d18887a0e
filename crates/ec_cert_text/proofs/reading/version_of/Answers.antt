use Rattle.std.proofs.Common.{rules}
use Rattle.ec_cert_text.proofs.reading.version_of.Goals as goal

pub returns-then-starts_with-3 : goal.returns-then-starts_with-3
unfolding Rattle.ec_cert_text.specs.Reading.version_at
returns-then-starts_with-3 c = search rules

pub returns : goal.returns
unfolding Rattle.ec_cert_text.specs.Reading.version_at
returns c = search rules
