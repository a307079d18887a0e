use Rattle.std.proofs.Common.{◌≡◌, ℕ, ◌+◌, cond, get_or, take}
use Rattle.std.specs.List.{list_any}
use Rattle.ec_frame_builder.specs.Frames.{covers}
use Rattle.ec_player.proofs.images.copy_pair.Given as goal

abbrev pub invariant-loop-fmmu : goal.invariant-loop-fmmu
invariant-loop-fmmu l = (k : ℕ) → get_or l.image k 0 ≡ cond (list_any (covers (65536 + k)) (take l.fmmu-index l.pair)) (get_or l.came k 0) (get_or l.initial.image k 0)
