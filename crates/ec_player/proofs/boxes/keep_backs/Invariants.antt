use Rattle.std.proofs.Common.{◌≡◌, ◌++◌}
use Rattle.ec_player.proofs.boxes.keep_backs.Given as goal

abbrev pub invariant-loop-back : goal.invariant-loop-back
invariant-loop-back l = l.spare.items ≡ l.initial.spare.items ++ l.yielded
