use Rattle.std.proofs.Common.{◌≡◌, ℕ, ◌&&◌, nat_le, nat_lt, cond, get_or}
use Rattle.ec_frame_builder.proofs.image.clear.Given as goal

abbrev pub invariant-loop-i : goal.invariant-loop-i
invariant-loop-i l = (k : ℕ) → get_or l.bytes k 0 ≡ cond (nat_le l.from k && nat_lt k l.i) 0 (get_or l.initial.bytes k 0)
