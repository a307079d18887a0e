-- A walk with a stack of its own.
use Rattle.std.specs.Prelude.{◌≡◌, ℕ, suc, ◌+◌, ◌*◌, ◌^◌, ◌<◌, ◌≤◌, ◌++◌, List, [], ◌∷◌, length, set, slice_get, reverse, Option, Some, None, ◌⊎◌, Bool, true, false}
use Rattle.std.proofs.Common.{Vec, Global, vec_capacity}
use Rattle.ec_units.specs.declared.slave.Place.{Place}
use Rattle.ec_loads.specs.Held.{Held}
use Rattle.ec_loads.specs.Line.{Rules, Line, line_of}
use Rattle.ec_loads.specs.Search.{Prefix, children, IsAtMost}
use Rattle.ec_loads.specs.Shape.{Shape}
use Rattle.ec_bounds.specs.Left.{Left, IsRestOf}
use Rattle.ec_cert.specs.declared.tree.Tree.{Tree}
use Rattle.ec_cert.specs.Shapes.{shape_of}
use Rattle.ec_branch.specs.declared.value.Search.{Search}
use Rattle.ec_branch.specs.declared.level.Level.{Level}
use Rattle.ec_branch.specs.declared.level.Turn.{Turn}
use Rattle.ec_branch.specs.declared.level.Turn.TheVariants.{Enter, Up}
use Rattle.ec_branch.specs.declared.node.Entered.{Entered}
use Rattle.ec_branch.specs.declared.node.Entered.TheVariants.{Leaf, Split}
use Rattle.ec_branch.specs.declared.walk.Stepped.{Stepped}
use Rattle.ec_branch.specs.declared.walk.Stepped.TheVariants.{On, Done}
use Rattle.ec_branch.specs.Frames.{Frame, IsFair}
use Rattle.ec_branch.specs.Walks.{IsReadyFor, IsWalked, IsWalking, FollowsGuide}

-- what a walk changes: the value in use, the nodes that are left, whether the guide is stopped, and what it knows
pub record State : Type 0 where
  pub value : Option ℕ
  pub left : ℕ
  pub halted : Bool
  pub known : Option ℕ

abbrev pub state_of : Search → Bool → Option ℕ → State
state_of search halted known = record { value = search.value; left = search.left; halted = halted; known = known }

-- the guide was asked before a node, while nodes were left and it didn't stop: the value in use is the lesser of what it was and what the guide knows
pub record IsAsked (floor : ℕ) (from now : State) : Type 0 where
  pub some : 0 < from.left
  pub runs : from.halted ≡ false
  pub left : now.left ≡ from.left
  pub halted : now.halted ≡ from.halted
  pub low : IsAtMost now.value from.value
  pub under : IsAtMost now.value now.known
  pub one : (now.value ≡ from.value) ⊎ (now.value ≡ now.known)
  pub high : (b : ℕ) → now.known ≡ Some b → floor ≤ b
  pub falls : IsAtMost now.known from.known

-- a node stays open: no node is left, or the guide stops
abbrev pub IsSpent : State → Type 0
IsSpent s = (s.left ≡ 0) ⊎ (s.halted ≡ true)

-- a walk below a prefix, from one state to another, gave the tree
pub record IsExplored (line : Line) (floor : ℕ) (ps : Prefix) (order : List ℕ) (from to : State) (tree : Shape) : Type 0 where
  pub walked : IsWalked line floor ps order from.value from.left to.value to.left to.halted tree
  pub follows : FollowsGuide from.left from.halted from.value from.known to.value to.known
  pub stays : from.halted ≡ true → to.halted ≡ true

-- a split of a prefix by the unit `u`, begun in one state; in the other, its first children have these trees
pub record IsUnderWay (line : Line) (floor : ℕ) (ps : Prefix) (u : ℕ) (order : List ℕ) (kids : List Place) (from now : State) (ts : List Tree) : Type 0 where
  pub first : Option ℕ
  pub had : ℕ
  pub spent : had + 1 ≡ from.left
  pub low : IsAtMost first from.value
  pub keeps : IsFair floor line.loads line.slots from.value → IsFair floor line.loads line.slots first
  pub walking : IsWalking line floor ps u order kids first had now.value now.left now.halted ts
  pub falls : IsAtMost now.known from.known
  pub least : IsAtMost from.known from.value → IsAtMost now.known now.value
  pub most : IsAtMost now.value now.known
  pub stays : from.halted ≡ true → now.halted ≡ true

-- a split of a prefix, begun in one state, some of whose children have trees in the other; the unit has no place
pub record IsAmong (line : Line) (floor : ℕ) (ps : Prefix) (later : List ℕ) (done : List Place) (from now : State) (level : Level) : Type 0 where
  pub free : slice_get ps level.unit ≡ Some None
  pub kids : done ++ level.places ≡ children line ps level.unit
  pub under : IsUnderWay line floor ps level.unit later done from now level.trees.items
  pub trees : length level.trees.items + length level.places ≤ vec_capacity level.trees

-- after some more children: this one is the next, and the guide was asked for it; or none is to be explored
abbrev pub IsPassed : Line → ℕ → Prefix → List ℕ → State → State → Level → Option Place → Type 0
IsPassed line floor ps later from now level (Some p) =
    (done : List Place) × (before : State) × IsAsked floor before now × IsAmong line floor ps later done from before (record { unit = level.unit; places = p ∷ level.places; trees = level.trees; room = level.room; above = level.above })
IsPassed line floor ps later from now level None = (done : List Place) × IsAmong line floor ps later done from now level × ((length level.places ≡ 0) ⊎ IsSpent now)

-- what became of a node
pub record IsOpened (line : Line) (floor : ℕ) (ps : Prefix) (order : List ℕ) (from to : State) (level : Level) : Type 0 where
  pub later : List ℕ
  pub next : order ≡ level.unit ∷ later
  pub places : level.places ≡ children line ps level.unit
  pub under : IsUnderWay line floor ps level.unit later [] from to level.trees.items
  pub none : level.trees.items ≡ []
  pub room : length level.places ≤ vec_capacity level.trees
  pub short : length level.places < 2 ^ 64
  pub spent : to.left + 1 ≡ from.left

abbrev pub IsEntered : Line → ℕ → Prefix → List ℕ → State → State → Entered → Type 0
IsEntered line floor ps order from to (Leaf tree) = IsExplored line floor ps order from to (shape_of tree)
IsEntered line floor ps order from to (Split level) = IsOpened line floor ps order from to level

-- a walk: the line, the floor, the prefix, the units after it, and the state at first
pub record Task : Type 0 where
  pub line : Line
  pub floor : ℕ
  pub places : Prefix
  pub order : List ℕ
  pub first : State

-- a level under which the walk entered the prefix `ps` in the state `now`: its own prefix and the state in which that was entered
pub record IsTop (task : Task) (l : Level) (before : Prefix) (from : State) (ps : Prefix) (later : List ℕ) (now : State) : Type 0 where
  pub place : Place
  pub done : List Place
  pub kids : done ++ place ∷ l.places ≡ children task.line before l.unit
  pub ready : IsReadyFor task.line.loads task.line.slots before (l.unit ∷ later)
  pub made : ps ≡ set before l.unit (Some place)
  pub under : IsUnderWay task.line task.floor before l.unit later done from now l.trees.items
  pub room : length l.trees.items + suc (length l.places) ≤ vec_capacity l.trees

-- the levels, the innermost first, lead from where the walk began to this prefix, the units after it, and the state in which it was entered
abbrev pub IsStack : Task → List Level → Prefix → List ℕ → State → Type 0
IsStack task [] ps later now = (ps ≡ task.places) × (later ≡ task.order) × (now ≡ task.first)
IsStack task (l ∷ ls) ps later now = (before : Prefix) × (from : State) × IsTop task l before from ps later now × IsStack task ls before (l.unit ∷ later) from

-- the guide was asked for the node, or it was entered and has this tree
abbrev pub IsTurn : Task → Prefix → List ℕ → State → State → Turn → Type 0
IsTurn task ps later from now Enter = IsAsked task.floor from now
IsTurn task ps later from now (Up tree) = IsExplored task.line task.floor ps later from now (shape_of tree)

-- where a walk by these rules is
pub record IsOn (rules : Rules) (task : Task) (ls : Vec Level Global) (held : Held) (left : Left) (now : State) (turn : Turn) : Type 0 where
  pub line : line_of rules held ≡ task.line
  pub rest : IsRestOf left held
  pub later : List ℕ
  pub ready : IsReadyFor task.line.loads task.line.slots held.places later
  pub room : length ls.items + length later ≤ vec_capacity ls
  pub from : State
  pub stack : IsStack task (reverse ls.items) held.places later from
  pub entered : IsTurn task held.places later from now turn

-- the same between two children of a split
pub record IsPaused (rules : Rules) (task : Task) (ls : Vec Level Global) (held : Held) (left : Left) (now : State) (level : Level) : Type 0 where
  pub line : line_of rules held ≡ task.line
  pub rest : IsRestOf left held
  pub later : List ℕ
  pub ready : IsReadyFor task.line.loads task.line.slots held.places (level.unit ∷ later)
  pub room : length ls.items + suc (length later) ≤ vec_capacity ls
  pub from : State
  pub stack : IsStack task (reverse ls.items) held.places (level.unit ∷ later) from
  pub done : List Place
  pub kids : done ++ level.places ≡ children task.line held.places level.unit
  pub under : IsUnderWay task.line task.floor held.places level.unit later done from now level.trees.items
  pub trees : length level.trees.items + length level.places ≤ vec_capacity level.trees

-- the places are those that the levels, the innermost first, lead to
pub record IsWithin (rules : Rules) (task : Task) (ls : List Level) (held : Held) (left : Left) : Type 0 where
  pub line : line_of rules held ≡ task.line
  pub rest : IsRestOf left held
  pub later : List ℕ
  pub from : State
  pub stack : IsStack task ls held.places later from

-- the places are as they were when the walk began
pub record IsBack (rules : Rules) (task : Task) (held : Held) (left : Left) : Type 0 where
  pub line : line_of rules held ≡ task.line
  pub rest : IsRestOf left held
  pub places : held.places ≡ task.places

-- the walk is over
pub record IsEnd (rules : Rules) (task : Task) (held : Held) (left : Left) (now : State) (tree : Tree) : Type 0 where
  pub back : IsBack rules task held left
  pub explored : IsExplored task.line task.floor task.places task.order task.first now (shape_of tree)

abbrev pub IsStepped : Rules → Task → Vec Level Global → Held → Left → State → Stepped → Type 0
IsStepped rules task ls held left now (On turn) = IsOn rules task ls held left now turn
IsStepped rules task ls held left now (Done tree) = IsEnd rules task held left now tree

-- the walk is in this order, and its guide for these units
pub record IsFor (task : Task) (order : List ℕ) (frame : Frame) : Type 0 where
  pub units : order ≡ task.order
  pub loads : frame.loads ≡ task.line.loads
  pub slots : frame.slots ≡ task.line.slots
  pub floor : frame.floor ≡ task.floor

-- how long a walk may still take: each node that is left may be split, and each child is entered and left
abbrev pub efforts : List Level → ℕ
efforts [] = 0
efforts (l ∷ ls) = 2 * length l.places + 1 + efforts ls

abbrev pub ahead : ℕ → List Level → ℕ
ahead left ls = left * 36893488147419103232 + efforts ls

abbrev pub effort : ℕ → List Level → Turn → ℕ
effort left ls Enter = ahead left ls + 1
effort left ls (Up tree) = ahead left ls

-- it takes less long after a step, or is over
abbrev pub is_less : ℕ → List Level → Stepped → ℕ → Type 0
is_less left ls (On turn) most = effort left ls turn < most
is_less left ls (Done tree) most = Unit {0}
