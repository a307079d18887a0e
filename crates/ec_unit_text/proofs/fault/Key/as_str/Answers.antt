use Rattle.std.proofs.Common.{rules}
use Rattle.ec_unit_text.proofs.fault.Key.as_str.Goals as goal

pub returns-in-Area-true : goal.returns-in-Area-true
unfolding Rattle.ec_unit_text.specs.FaultText.key_text
returns-in-Area-true c = search rules
