-- What a leaf that holds means for the plans that extend its prefix, and for smaller values.
use Rattle.std.specs.Prelude.{ℕ, ◌<◌, ◌≤◌, List, map, Option, Some}
use Rattle.ec_units.specs.declared.slave.Place.{Place}
use Rattle.ec_loads.specs.declared.item.Item.{Item}
use Rattle.ec_loads.specs.Cost.{raw_cost, tick_cost}
use Rattle.ec_loads.specs.Held.{Held, AreLoads}
use Rattle.ec_loads.specs.Legal.{IsLegal}
use Rattle.ec_loads.specs.Line.{Line}
use Rattle.ec_loads.specs.Rooms.{IsInFirstSlot}
use Rattle.ec_loads.specs.Search.{Prefix, Extends, FullHolds, LeafHolds, HasTick, IsAtMost}
use Rattle.ec_loads.specs.Shape.{Leaf, merging}

-- of which plans a leaf speaks: of each that extends its prefix; a merge of those alone that have all units in slot 0, since such a plan stands for the others
abbrev pub SpeaksOf : Leaf → List Place → Type 0
SpeaksOf merging plan = IsInFirstSlot plan
SpeaksOf _ plan = Unit {0}

-- where a leaf holds, every legal plan that extends the prefix and of which it speaks has a tick that costs at least the value; at no value, none is legal
abbrev pub LeavesBound : Type 0
LeavesBound =
    (line : Line) (v : Option ℕ) (ps : Prefix) (l : Leaf) (plan : List Place) → AreLoads line.loads → Extends ps (map Some plan) → IsLegal line.loads line.slots plan →
    SpeaksOf l plan → LeafHolds line v ps l → HasTick line.loads line.slots v plan

-- a leaf that holds at a value holds at every smaller one
abbrev pub LeavesFall : Type 0
LeavesFall = (line : Line) (v w : Option ℕ) (ps : Prefix) (l : Leaf) → IsAtMost w v → LeafHolds line v ps l → LeafHolds line w ps l

-- what a tick costs without the padding is at most what it costs
abbrev pub RawAtMostCost : Type 0
RawAtMostCost = (xs : List Item) (n t : ℕ) → raw_cost xs n t ≤ tick_cost xs n t

-- a slot is too full, and none in an earlier tick or before it in this one
abbrev pub IsFirstFullLeaf : Held → ℕ → ℕ → Type 0
IsFirstFullLeaf held t s =
    FullHolds held.loads held.slots held.places t s
    × ((i j : ℕ) → i < t → ¬ (FullHolds held.loads held.slots held.places i j))
    × ((j : ℕ) → j < s → ¬ (FullHolds held.loads held.slots held.places t j))
