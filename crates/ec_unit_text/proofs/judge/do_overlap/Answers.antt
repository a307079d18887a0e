use Rattle.std.proofs.Common.{rules}
use Rattle.ec_unit_text.proofs.judge.do_overlap.Goals as goal

pub returns-then-ends_past : goal.returns-then-ends_past
returns-then-ends_past c = search rules
