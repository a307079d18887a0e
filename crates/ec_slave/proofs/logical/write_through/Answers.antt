use Rattle.std.proofs.Common.{arith}
use Rattle.std.specs.Prelude.{length}
use Rattle.ec_slave.specs.declared.fmmu.Direction.TheVariants as direction
use Rattle.ec_slave.proofs.StretchLemmas.{maps_is}
use Rattle.ec_slave.proofs.WriteLemmas.{written_part}
use Rattle.ec_slave.proofs.logical.write_through.Goals as goal

pub returns-clause-memory : goal.returns-clause-memory
returns-clause-memory c = written_part c.args.fmmu c.args.address c.stretch-stretch.result c.args.bytes.now c.args.memory.now c.put.new.list _ c.stretch-stretch.ensures (omega arith) c.put.ensures

pub returns-clause-met : goal.returns-clause-met
returns-clause-met c = maps_is c.args.fmmu (length c.args.memory.now) direction.Writes c.args.address (length c.args.bytes.now) c.stretch-stretch.result c.stretch-stretch.ensures
