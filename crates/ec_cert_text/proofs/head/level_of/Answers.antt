use Rattle.std.proofs.Common.{rules}
use Rattle.ec_cert_text.proofs.head.level_of.Goals as goal

pub returns-in_err-level : goal.returns-in_err-level
unfolding Rattle.ec_cert_text.specs.Reading.level_at
returns-in_err-level c = search rules

pub returns-then-version-ge3 : goal.returns-then-version-ge3
unfolding Rattle.ec_cert_text.specs.Reading.level_at
returns-then-version-ge3 c = search rules

pub returns : goal.returns
unfolding Rattle.ec_cert_text.specs.Reading.level_at
returns c = search rules
