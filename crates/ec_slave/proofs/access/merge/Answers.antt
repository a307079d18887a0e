use Rattle.std.proofs.Common.{◌+◌, get_or, length, arith}
use Rattle.std.specs.Prelude.{bit_or}
use Rattle.std.proofs.lemmas.List.FromFn.{fill_by_all}
use Rattle.ec_slave.proofs.access.merge.Goals as goal

pub returns : goal.returns
returns c = fill_by_all (λ k. bit_or (get_or c.args.bytes.now k 0) (get_or c.args.memory.now (c.args.offset + k) 0)) c.loop-k.field (length c.args.bytes.now) 0 (omega arith) (λ k h. c.loop-k.invariant k (omega arith))
