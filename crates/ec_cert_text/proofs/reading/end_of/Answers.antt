use Rattle.std.proofs.Common.{rules}
use Rattle.ec_cert_text.proofs.reading.end_of.Goals as goal

pub returns : goal.returns
unfolding Rattle.ec_cert_text.specs.Reading.end_at
returns c = search rules

pub returns-then-is_empty : goal.returns-then-is_empty
unfolding Rattle.ec_cert_text.specs.Reading.end_at
returns-then-is_empty c = search rules
