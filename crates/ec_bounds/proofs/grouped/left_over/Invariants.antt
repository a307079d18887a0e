use Rattle.std.proofs.Common.{◌≡◌, ◌+◌, ◌-◌, ◌*◌}
use Rattle.ec_loads.specs.Cost.{items, sum_below}
use Rattle.ec_loads.specs.Rooms.{room_beside_by}
use Rattle.ec_bounds.proofs.grouped.left_over.Given as goal

abbrev pub invariant-loop-phase : goal.invariant-loop-phase
invariant-loop-phase g l = l.left ≡ l.bytes - ((l.pair.count - 1) * l.pair.room + sum_below (room_beside_by (items l.loads.loads l.loads.places) (g.T.Tops.tops l.tops) l.value l.period l.pair.room) l.phase)
