use Rattle.std.proofs.Common.{◌≡◌, vec_len, length}
use Rattle.test_contention.proofs.contention.into_slots.Given as goal

abbrev pub invariant-loop-seat : goal.invariant-loop-seat
invariant-loop-seat g l = vec_len l.slots ≡ length l.yielded
