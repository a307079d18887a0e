use Rattle.std.proofs.Common.{◌≡◌, map, take}
use Rattle.ec_player.specs.Trips.{sent_in}
use Rattle.ec_play_trial.specs.Shorts.{wants_of}
use Rattle.ec_play_trial.proofs.shorts.wants_of.Given as goal

abbrev pub invariant-loop-trip : goal.invariant-loop-trip
invariant-loop-trip l = l.wants.items ≡ wants_of (map sent_in (take l.trip-index l.trips))
