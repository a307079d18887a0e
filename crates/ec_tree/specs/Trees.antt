-- What a tree for the empty prefix shows of every legal plan.
use Rattle.std.specs.Prelude.{ℕ, List, length, Option, Some}
use Rattle.ec_loads.specs.Held.{AreLoads, no_places}
use Rattle.ec_loads.specs.Line.{Line}
use Rattle.ec_loads.specs.Shape.{Shape}
use Rattle.ec_loads.specs.Search.{IsTree, ShowsLevel, BoundsAll}
use Rattle.ec_symmetry.specs.Orders.{IsOrder}

-- by any rules, every legal plan, not only those that the children reach, has a tick that costs at least the value
abbrev pub TreesBound : Type 0
TreesBound =
    (line : Line) (v : Option ℕ) (tree : Shape) (order : List ℕ) → AreLoads line.loads → IsOrder (length line.loads) order →
    IsTree line v tree (no_places line.loads) order → BoundsAll line.loads line.slots v

-- by any rules, every legal plan has a tick that costs at least the level that a tree with open leaves shows
abbrev pub LevelsBound : Type 0
LevelsBound =
    (line : Line) (v : Option ℕ) (level : ℕ) (tree : Shape) (order : List ℕ) → AreLoads line.loads → IsOrder (length line.loads) order →
    ShowsLevel line v level tree (no_places line.loads) order → BoundsAll line.loads line.slots (Some level)
