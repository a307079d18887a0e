use Rattle.std.proofs.Common.{◌≡◌, ◌-◌, ◌/◌}
use Rattle.ec_loads.specs.Cost.{items, sum_below}
use Rattle.ec_loads.specs.Rooms.{room_by}
use Rattle.ec_bounds.proofs.counted.left_over.Given as goal

abbrev pub invariant-loop-phase : goal.invariant-loop-phase
invariant-loop-phase g l = l.left ≡ l.count - sum_below (λ f. room_by (items l.loads.loads l.loads.places) (g.T.Tops.tops l.tops) l.value l.period f / l.bytes) l.phase
