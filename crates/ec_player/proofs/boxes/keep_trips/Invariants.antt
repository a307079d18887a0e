use Rattle.std.proofs.Common.{◌≡◌, ◌++◌, map}
use Rattle.ec_player.proofs.boxes.keep_trips.Given as goal

abbrev pub invariant-loop-trip : goal.invariant-loop-trip
invariant-loop-trip l = l.spare.items ≡ l.initial.spare.items ++ map (λ trip. trip.frame) l.yielded
