use Rattle.std.proofs.Common.{rules}
use Rattle.ec_fmmu.proofs.seat.is_key_before.Goals as goal

pub returns-then-a-b : goal.returns-then-a-b
returns-then-a-b c = search rules

pub returns-else-a-b-2 : goal.returns-else-a-b-2
returns-else-a-b-2 c = search rules

pub returns-then-a-b-3 : goal.returns-then-a-b-3
returns-then-a-b-3 c = search rules

pub returns-then-a-b-4 : goal.returns-then-a-b-4
returns-then-a-b-4 c = search rules

pub returns-else-a-b-4 : goal.returns-else-a-b-4
returns-else-a-b-4 c = search rules
