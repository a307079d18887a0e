use Rattle.std.proofs.Common.{rules}
use Rattle.ec_bounds.proofs.grouped.is_needed.Goals as goal

pub returns : goal.returns
returns g c = search rules

pub returns-then-pair-eq0 : goal.returns-then-pair-eq0
returns-then-pair-eq0 g c = search rules
