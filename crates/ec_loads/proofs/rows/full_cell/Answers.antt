use Rattle.std.proofs.Common.{rules}
use Rattle.ec_loads.proofs.rows.full_cell.Goals as goal

pub returns-then-cells-tick-gt-MOST_PAYLOAD : goal.returns-then-cells-tick-gt-MOST_PAYLOAD
returns-then-cells-tick-gt-MOST_PAYLOAD c = search rules
