use Rattle.std.proofs.Common.{length, arith}
use Rattle.ec_slave.proofs.StretchLemmas.{read_met}
use Rattle.ec_slave.proofs.WriteLemmas.{read_all}
use Rattle.ec_slave.proofs.logical.read_from.Goals as goal

pub returns-clause-field : goal.returns-clause-field
returns-clause-field c =
    read_all c.args.fmmus c.args.address c.args.memory.now c.args.bytes.now c.copy_from_slice.new.self c.read_through-first.new.field c.read_through-second.new.field
    c.copy_from_slice.ensures.after (omega arith) (omega arith) c.read_through-first.ensures.field c.read_through-second.ensures.field

pub returns-clause-met : goal.returns-clause-met
returns-clause-met c =
    read_met c.args.fmmus (length c.args.memory.now) c.args.address (length c.args.bytes.now) (length c.copy_from_slice.new.self) (length c.read_through-first.new.field) _ _ (omega arith) (omega arith) c.read_through-first.ensures.met c.read_through-second.ensures.met
