use Rattle.std.proofs.Common.{◌≡◌, map, filter}
use Rattle.std.specs.List.{range_with_len}
use Rattle.ec_play_trial.specs.Shorts.{differ, wrong_at}
use Rattle.ec_play_trial.proofs.shorts.shorts_of.Given as goal

abbrev pub invariant-loop-datagram : goal.invariant-loop-datagram
invariant-loop-datagram l = l.shorts.items ≡ map (wrong_at l.wants l.gots) (filter (differ l.wants l.gots) (range_with_len 0 l.datagram))
