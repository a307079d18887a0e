use Rattle.std.proofs.Common.{rules}
use Rattle.ec_checker.proofs.checking.verdict_at.Goals as goal

pub returns-in-Some : goal.returns-in-Some
returns-in-Some c = search rules
