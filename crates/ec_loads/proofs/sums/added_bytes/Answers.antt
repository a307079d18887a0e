use Rattle.std.proofs.Common.{rules}
use Rattle.ec_loads.proofs.sums.added_bytes.Goals as goal

pub returns-then-is_in_group-clause-value : goal.returns-then-is_in_group-clause-value
returns-then-is_in_group-clause-value c = search rules
