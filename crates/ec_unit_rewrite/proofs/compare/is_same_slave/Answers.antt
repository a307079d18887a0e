use Rattle.std.proofs.Common.{rules}
use Rattle.ec_unit_rewrite.proofs.compare.is_same_slave.Goals as goal

pub returns-then-one-other-4 : goal.returns-then-one-other-4
returns-then-one-other-4 c = search rules
