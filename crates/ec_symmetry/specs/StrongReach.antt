-- What the strong children reach, and plans in one slot.
use Rattle.std.specs.Prelude.{ℕ, ◌≤◌, List, length, map}
use Rattle.ec_units.specs.declared.slave.Place.{Place}
use Rattle.ec_units.specs.declared.unit.Load.{Load}
use Rattle.ec_loads.specs.Cost.{plan_items, tick_cost}
use Rattle.ec_loads.specs.Held.{AreLoads}
use Rattle.ec_loads.specs.Legal.{IsLegal}
use Rattle.ec_loads.specs.Line.{strong, line_by}
use Rattle.ec_loads.specs.Rooms.{IsInFirstSlot}
use Rattle.ec_symmetry.specs.Orders.{IsOrder}
use Rattle.ec_symmetry.specs.Reached.{CostsWithin, IsReached}

-- for every legal plan and every order of the units there is a legal plan that the strong children reach in that order, and each of its ticks costs what
-- some tick of the plan costs; where the plan uses slot 0 alone, so does that one
abbrev pub StrongChildrenReach : Type 0
StrongChildrenReach =
    (loads : List Load) (n : ℕ) (order : List ℕ) (plan : List Place) → AreLoads loads → IsOrder (length loads) order → IsLegal loads n plan →
    (other : List Place) × IsLegal loads n other × CostsWithin loads n other plan × (IsInFirstSlot plan → IsInFirstSlot other) × IsReached (line_by strong loads n) order other

-- the plan with the same phases and every slot 0
abbrev pub merged : List Place → List Place
merged plan = map (λ p. record { phase = p.phase; slot = 0 }) plan

-- where no tick of a legal plan costs more than 1578 bytes, the plan in slot 0 alone is legal, and no tick of it costs more than before
abbrev pub SlotsMerge : Type 0
SlotsMerge =
    (loads : List Load) (n : ℕ) (plan : List Place) → IsLegal loads n plan → ((t : ℕ) → tick_cost (plan_items loads plan) n t ≤ 1578) →
    IsLegal loads n (merged plan) × ((t : ℕ) → tick_cost (plan_items loads (merged plan)) n t ≤ tick_cost (plan_items loads plan) n t)
