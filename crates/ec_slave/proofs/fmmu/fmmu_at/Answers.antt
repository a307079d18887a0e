use Rattle.std.proofs.Common.{arith}
use Rattle.std.proofs.lemmas.Grind.{common_steps}
use Rattle.ec_slave.proofs.fmmu.fmmu_at.Goals as goal

pub returns-then-active-2 : goal.returns-then-active-2
returns-then-active-2 c = grind (arith, common_steps)

pub returns-else-active-2 : goal.returns-else-active-2
returns-else-active-2 c = grind (arith, common_steps)
