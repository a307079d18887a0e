use Rattle.std.proofs.Common.{rules, arith}
use Rattle.std.proofs.lemmas.Grind.{common_steps}
use Rattle.ec_slave.proofs.access.station_of.Goals as goal

pub read_u16-requires : goal.read_u16-requires
read_u16-requires c = search rules

pub returns : goal.returns
returns c = grind (arith, common_steps)
