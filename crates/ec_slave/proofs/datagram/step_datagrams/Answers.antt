use Rattle.std.proofs.Common.{arith}
use Rattle.std.proofs.lemmas.Grind.{common_steps}
use Rattle.ec_slave.proofs.datagram.step_datagrams.Goals as goal

pub datagrams-preserved : goal.datagrams-preserved
datagrams-preserved c = grind (arith, common_steps)
