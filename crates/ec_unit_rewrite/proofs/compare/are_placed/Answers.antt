use Rattle.std.proofs.Common.{rules}
use Rattle.ec_unit_rewrite.proofs.compare.are_placed.Goals as goal

pub returns-then-are_same_units : goal.returns-then-are_same_units
returns-then-are_same_units c = search rules
