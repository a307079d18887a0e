use Rattle.std.proofs.Common.{◌≡◌, map, take}
use Rattle.ec_player.specs.Trips.{sent_in, slot_from}
use Rattle.ec_player.proofs.trips.trips_of_slots.Given as goal

abbrev pub invariant-loop-slot : goal.invariant-loop-slot
invariant-loop-slot l = map sent_in l.trips.items ≡ map (slot_from l.mapping.groups l.sent l.tick) (take l.slot-index l.slots)
