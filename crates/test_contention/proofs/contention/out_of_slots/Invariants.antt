use Rattle.std.proofs.Common.{◌≡◌, vec_len, length}
use Rattle.test_contention.proofs.contention.out_of_slots.Given as goal

abbrev pub invariant-loop-slot : goal.invariant-loop-slot
invariant-loop-slot g l = vec_len l.seats ≡ length l.yielded
