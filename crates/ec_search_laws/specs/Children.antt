-- How many children a prefix has.
use Rattle.std.specs.Prelude.{◌≡◌, ℕ, ◌≤◌, List, ◌∷◌, length, drop}
use Rattle.ec_units.specs.declared.slave.Place.{Place}
use Rattle.ec_loads.specs.Held.{AreLoads}
use Rattle.ec_loads.specs.Line.{Line}
use Rattle.ec_loads.specs.Search.{children}
use Rattle.ec_symmetry.specs.Orders.{IsOrder, IsReachedPrefix, prefix_of}

-- by any rules, a prefix that the children reach, after which this unit of the order is next, has 1 to 480 children
abbrev pub ChildrenAreFew : Type 0
ChildrenAreFew =
    (line : Line) (order : List ℕ) (places : List Place) (unit : ℕ) (rest : List ℕ) → AreLoads line.loads → 1 ≤ line.slots → line.slots ≤ 8 → IsOrder (length line.loads) order → IsReachedPrefix line order places →
    drop (length places) order ≡ unit ∷ rest →
    (1 ≤ length (children line (prefix_of line.loads order places) unit)) × (length (children line (prefix_of line.loads order places) unit) ≤ 480)
