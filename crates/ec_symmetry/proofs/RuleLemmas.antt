-- What the children reach, by each set of rules.
use Rattle.std.proofs.Common.{ℕ, true, List, length}
use Rattle.ec_units.specs.declared.slave.Place.{Place}
use Rattle.ec_units.specs.declared.unit.Load.{Load}
use Rattle.ec_loads.specs.Held.{AreLoads}
use Rattle.ec_loads.specs.Legal.{IsLegal}
use Rattle.ec_loads.specs.Line.{Rules, slots_alone, turned_time, strong, line_by}
use Rattle.ec_symmetry.specs.Orders.{IsOrder}
use Rattle.ec_symmetry.specs.Reached.{CostsWithin, IsReached, EveryPlanIsReached}
use Rattle.ec_symmetry.specs.Renamed.{renamed}
use Rattle.ec_symmetry.specs.StrongReach.{StrongChildrenReach}
use Rattle.ec_symmetry.specs.Turned.{turned_plan}
use Rattle.ec_symmetry.proofs.TurnLemmas.{turned-all}

-- by slots alone each tick costs what the same tick of the plan costs; where time is turned, what a later tick of it costs
pub reached_by : EveryPlanIsReached → StrongChildrenReach → (rules : Rules) (loads : List Load) (n : ℕ) (order : List ℕ) (plan : List Place) → AreLoads loads → IsOrder (length loads) order → IsLegal loads n plan
    → (other : List Place) × IsLegal loads n other × CostsWithin loads n other plan × IsReached (line_by rules loads n) order other
reached_by every reach slots_alone loads n order plan within is legal =
    let r = every loads n order plan is.below legal in
    (r.0, r.1, (λ t. (t, r.2 t)), r.3)
reached_by every reach turned_time loads n order plan within is legal =
    let t = turned-all true loads n order plan within is.below (record { whole = legal.whole; phases = legal.phases; slots = legal.slots }) in
    (renamed 0 order (turned_plan true loads order plan), t.legal legal, t.costs.within, t.reached)
reached_by every reach strong loads n order plan within is legal = let r = reach loads n order plan within is legal in (r.0, r.1, r.2, r.4)
