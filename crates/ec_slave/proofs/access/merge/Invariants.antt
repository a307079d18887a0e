use Rattle.std.proofs.Common.{◌≡◌, ℕ, ◌+◌, ◌<◌, get_or}
use Rattle.std.specs.Prelude.{bit_or}
use Rattle.ec_slave.proofs.access.merge.Given as goal

abbrev pub invariant-loop-k : goal.invariant-loop-k
invariant-loop-k l = (k : ℕ) → k < l.k → get_or l.field k 0 ≡ bit_or (get_or l.bytes k 0) (get_or l.memory (l.offset + k) 0)
