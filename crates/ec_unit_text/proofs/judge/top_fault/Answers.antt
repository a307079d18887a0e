use Rattle.std.proofs.Common.{rules}
use Rattle.ec_unit_text.proofs.judge.top_fault.Goals as goal

pub returns-in-TickRange : goal.returns-in-TickRange
returns-in-TickRange c = search rules
