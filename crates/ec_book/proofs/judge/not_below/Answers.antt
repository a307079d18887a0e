use Rattle.std.proofs.Common.{rules}
use Rattle.ec_book.proofs.judge.not_below.Goals as goal

pub returns-then-value-best : goal.returns-then-value-best
returns-then-value-best c = search rules
