-- What the rooms of classes mean for the plans that extend a prefix, and for smaller values.
use Rattle.std.specs.Prelude.{ℕ, ◌<◌, ◌≤◌, if◌then◌else◌, List, [], ◌∷◌, map, sum_by, Option, Some, None}
use Rattle.ec_hyper.specs.Lcm.{lcm_of}
use Rattle.ec_units.specs.declared.slave.Place.{Place}
use Rattle.ec_units.specs.declared.unit.Load.{Load}
use Rattle.ec_units.specs.Load.{periods_of}
use Rattle.ec_loads.specs.declared.item.Item.{Item}
use Rattle.ec_loads.specs.declared.pair.Pair.{Pair}
use Rattle.ec_loads.specs.Cost.{item, items, plan_items, tick_cost}
use Rattle.ec_loads.specs.Held.{AreLoads}
use Rattle.ec_loads.specs.Legal.{IsLegal}
use Rattle.ec_loads.specs.Rooms.{is_of_class, room, MergeHolds, CountHolds, GroupsHold}
use Rattle.ec_loads.specs.Search.{Prefix, Extends, HasTick, IsAtMost}

-- the items of a plan that a prefix doesn't have
abbrev pub items_beyond : List Load → Prefix → List Place → List Item
items_beyond [] ps plan = []
items_beyond (l ∷ ls) [] plan = []
items_beyond (l ∷ ls) (p ∷ ps) [] = []
items_beyond (l ∷ ls) (None ∷ ps) (q ∷ plan) = item l q ∷ items_beyond ls ps plan
items_beyond (l ∷ ls) (Some p ∷ ps) (q ∷ plan) = items_beyond ls ps plan

-- the bytes of the items of a class
abbrev pub class_bytes : List Item → ℕ → ℕ → ℕ
class_bytes xs p f = sum_by (λ x. if is_of_class p f x then x.bytes else 0) xs

-- what a legal plan whose ticks all cost less than a value puts into a class beyond a prefix has room there
abbrev pub RoomsBound : Type 0
RoomsBound =
    (loads : List Load) (n v : ℕ) (ps : Prefix) (plan : List Place) → AreLoads loads → Extends ps (map Some plan) → IsLegal loads n plan →
    ((t : ℕ) → tick_cost (plan_items loads plan) n t < v) →
    (p f : ℕ) → class_bytes (items_beyond loads ps plan) p f ≤ room (items loads ps) n (lcm_of (periods_of loads)) v p f

-- where more units are left than have room, every legal plan that extends the prefix has a tick that costs at least the value
abbrev pub CountsBound : Type 0
CountsBound =
    (loads : List Load) (n : ℕ) (v : Option ℕ) (ps : Prefix) (p c : ℕ) (plan : List Place) → AreLoads loads → Extends ps (map Some plan) → IsLegal loads n plan →
    CountHolds loads n v ps p c → HasTick loads n v plan

-- the same where so many new groups are needed
abbrev pub GroupsBound : Type 0
GroupsBound =
    (loads : List Load) (n : ℕ) (v : Option ℕ) (ps : Prefix) (pairs : List Pair) (plan : List Place) → AreLoads loads → Extends ps (map Some plan) → IsLegal loads n plan →
    GroupsHold loads n v ps pairs → HasTick loads n v plan

-- what holds at a value holds at every smaller one
abbrev pub MergesFall : Type 0
MergesFall = (v w : Option ℕ) (ps : Prefix) → IsAtMost w v → MergeHolds v ps → MergeHolds w ps

abbrev pub CountsFall : Type 0
CountsFall = (loads : List Load) (n : ℕ) (v w : Option ℕ) (ps : Prefix) (p c : ℕ) → IsAtMost w v → CountHolds loads n v ps p c → CountHolds loads n w ps p c

abbrev pub GroupsFall : Type 0
GroupsFall = (loads : List Load) (n : ℕ) (v w : Option ℕ) (ps : Prefix) (pairs : List Pair) → IsAtMost w v → GroupsHold loads n v ps pairs → GroupsHold loads n w ps pairs
