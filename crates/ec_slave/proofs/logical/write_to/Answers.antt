use Rattle.std.proofs.Common.{length, arith}
use Rattle.ec_slave.specs.declared.fmmu.Direction.TheVariants as direction
use Rattle.ec_slave.proofs.StretchLemmas.{met_is}
use Rattle.ec_slave.proofs.WriteLemmas.{written_both}
use Rattle.ec_slave.proofs.logical.write_to.Goals as goal

pub returns-clause-memory : goal.returns-clause-memory
returns-clause-memory c =
    written_both c.args.fmmus c.args.address c.args.bytes.now c.args.memory.now c.write_through-first.new.memory c.write_through-second.new.memory (omega arith) (omega arith)
    c.write_through-first.ensures.memory c.write_through-second.ensures.memory

pub returns-clause-met : goal.returns-clause-met
returns-clause-met c =
    met_is c.args.fmmus (length c.args.memory.now) (length c.write_through-first.new.memory) direction.Writes c.args.address (length c.args.bytes.now) (length c.args.bytes.now) _ _ (omega arith) (omega arith) c.write_through-first.ensures.met c.write_through-second.ensures.met
