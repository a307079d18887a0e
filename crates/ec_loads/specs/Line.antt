-- A line of units, and by which rules its trees are made.
use Rattle.std.specs.Prelude.{ℕ, Bool, true, false, List}
use Rattle.ec_units.specs.declared.unit.Load.{Load}
use Rattle.ec_loads.specs.Held.{Held}

-- by which rules the children of a prefix are made: slots by their first use and each phase; the same, but of the empty prefix phase 0 alone; or slots by
-- their first use, the phases that no shift of time leads from, and no place below that of an equal unit
pub data Rules : Type 0 where
  slots_alone : Rules
  turned_time : Rules
  strong : Rules

-- the rules where time is turned, and where it isn't
abbrev pub rules_if : Bool → Rules
rules_if false = slots_alone
rules_if true = turned_time

-- whether these are the strong rules, by which a tree may have three more kinds of leaf
abbrev pub IsStrong : Rules → Type 0
IsStrong slots_alone = ⊥
IsStrong turned_time = ⊥
IsStrong strong = Unit {0}

-- the units in file order, the slot count, and the rules
pub record Line : Type 0 where
  pub loads : List Load
  pub slots : ℕ
  pub rules : Rules

-- these units and slots, by the rules
abbrev pub line_by : Rules → List Load → ℕ → Line
line_by rules loads n = record { loads = loads; slots = n; rules = rules }

-- the line of what the loads hold, by the rules
abbrev pub line_of : Rules → Held → Line
line_of rules held = line_by rules held.loads held.slots
