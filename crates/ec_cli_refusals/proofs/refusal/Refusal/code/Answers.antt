use Rattle.std.proofs.Common.{rules}
use Rattle.ec_cli_refusals.proofs.refusal.Refusal.code.Goals as goal

pub returns-in-Unit-OutOfMemory-7 : goal.returns-in-Unit-OutOfMemory-7
returns-in-Unit-OutOfMemory-7 c = search rules
