use Rattle.std.proofs.Common.{◌≡◌, map, take}
use Rattle.ec_frame_builder.specs.Frames.{going}
use Rattle.ec_player.proofs.trips.wants_of.Given as goal

abbrev pub invariant-loop-group : goal.invariant-loop-group
invariant-loop-group l = l.wants.items ≡ map (λ g. g.counter) (going (take l.group-index l.groups) l.tick l.slot)
