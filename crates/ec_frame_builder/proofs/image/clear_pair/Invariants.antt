use Rattle.std.proofs.Common.{◌≡◌, ℕ, ◌+◌, cond, get_or, take}
use Rattle.std.specs.List.{list_any}
use Rattle.ec_frame_builder.specs.Frames.{covers}
use Rattle.ec_frame_builder.proofs.image.clear_pair.Given as goal

abbrev pub invariant-loop-fmmu : goal.invariant-loop-fmmu
invariant-loop-fmmu l = (k : ℕ) → get_or l.bytes k 0 ≡ cond (list_any (covers (65536 + k)) (take l.fmmu-index l.pair)) 0 (get_or l.initial.bytes k 0)
