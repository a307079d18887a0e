-- Which certificates have a text.
use Rattle.std.specs.Prelude.{◌≡◌, ℕ, zero, suc, ◌<◌, ◌≤◌, ◌⊎◌, true, List, length, Option, None, Some}
use Rattle.std.specs.List.{All}
use Rattle.ec_units.specs.Names.{is_name}
use Rattle.ec_units.specs.declared.slave.Place.{Place}
use Rattle.ec_loads.specs.declared.pair.Pair.{Pair}
use Rattle.ec_loads.specs.Search.{IsShortPair}
use Rattle.ec_loads.specs.Shape.{Leaf, tick, full, average, weighted, merging, counted, grouped, Shape, split, leaf, open_leaf, Shapes, no_shapes, more, shape_count}
use Rattle.ec_cert.specs.declared.lists.UnitLine.{UnitLine}
use Rattle.ec_cert.specs.declared.cert.Best.{Best}
use Rattle.ec_cert.specs.declared.kinds.Kinds.{Kinds}
use Rattle.ec_cert.specs.LeafKinds.{kinds_in}
use Rattle.ec_cert.specs.Shapes.{CertView}

-- there are 1 to 1024 weights, none above 65535
pub record AreWeights (w : List ℕ) : Type 0 where
  pub least : 1 ≤ length w
  pub most : length w ≤ 1024
  pub each : All (λ x. x ≤ 65535) w

-- there are 1 to 48 pairs, each of at most 65535 groups and 12304 bytes
pub record ArePairs (pairs : List Pair) : Type 0 where
  pub least : 1 ≤ length pairs
  pub most : length pairs ≤ 48
  pub each : All IsShortPair pairs

-- units that are counted have a period of 1 to 60 and 1 to 1486 bytes
abbrev pub IsCountLine : ℕ → ℕ → Type 0
IsCountLine period bytes = ((1 ≤ period) × (period ≤ 60)) × ((1 ≤ bytes) × (bytes ≤ 1486))

-- the numbers of a leaf are in range, and there may be leaves of its kind
abbrev pub IsLeafLine : Kinds → Leaf → Type 0
IsLeafLine kinds (tick t) = t ≤ 1023
IsLeafLine kinds (full t s) = (t ≤ 1023) × (s ≤ 7)
IsLeafLine kinds average = Unit {0}
IsLeafLine kinds (weighted w) = (kinds.weights ≡ true) × AreWeights w
IsLeafLine kinds merging = kinds.rooms ≡ true
IsLeafLine kinds (counted p c) = (kinds.rooms ≡ true) × IsCountLine p c
IsLeafLine kinds (grouped pairs) = (kinds.rooms ≡ true) × ArePairs pairs

-- the numbers of a tree are in range, there may be leaves of their kinds, and the tree has at most so many levels
abbrev mutual
  pub HasLevels : Kinds → ℕ → Shape → Type 0
  HasLevels kinds zero s = ⊥
  HasLevels kinds (suc d) (split ss) = (1 ≤ shape_count ss) × (shape_count ss ≤ 480) × HaveLevels kinds d ss
  HasLevels kinds (suc d) (leaf l) = IsLeafLine kinds l
  HasLevels kinds (suc d) open_leaf = kinds.left_open ≡ true

  pub HaveLevels : Kinds → ℕ → Shapes → Type 0
  HaveLevels kinds d no_shapes = Unit {0}
  HaveLevels kinds d (more s ss) = HasLevels kinds d s × HaveLevels kinds d ss

pub record IsUnitLine (u : UnitLine) : Type 0 where
  pub name : is_name u.name ≡ true
  pub least_bytes : 1 ≤ u.bytes
  pub most_bytes : u.bytes ≤ 1486
  pub least_period : 1 ≤ u.period
  pub most_period : u.period ≤ 60

abbrev pub IsPlaceLine : Place → Type 0
IsPlaceLine p = (p.phase ≤ 59) × (p.slot ≤ 7)

-- the value is in range, and there is a place for each of so many units
pub record IsBest (units : ℕ) (b : Best) : Type 0 where
  pub least : 84 ≤ b.busiest
  pub most : b.busiest ≤ 12304
  pub count : length b.plan.places ≡ units
  pub places : All IsPlaceLine b.plan.places

abbrev pub IsBestOrNone : ℕ → Option Best → Type 0
IsBestOrNone units None = Unit {0}
IsBestOrNone units (Some b) = IsBest units b

-- certificates of version 3 have a level, which is at most 12304; those of version 4 may have one; others have none
abbrev pub IsLevelLine : ℕ → Option ℕ → Type 0
IsLevelLine version None = (version ≤ 2) ⊎ (4 ≤ version)
IsLevelLine version (Some level) = (3 ≤ version) × (level ≤ 12304)

-- a certificate that has a text: its parts are in the ranges of the text and of its version, its counts agree, and no node has more than 48 splits above it
pub record IsWellFormed (c : CertView) : Type 0 where
  pub least_version : 1 ≤ c.version
  pub most_version : c.version ≤ 4
  pub least_slots : 1 ≤ c.slots
  pub most_slots : c.slots ≤ 8
  pub least_units : 1 ≤ length c.units
  pub most_units : length c.units ≤ 48
  pub units : All IsUnitLine c.units
  pub order_count : length c.order ≡ length c.units
  pub order : All (λ i. i < length c.units) c.order
  pub best : IsBestOrNone (length c.units) c.best
  pub level : IsLevelLine c.version c.level
  pub tree : HasLevels (kinds_in c.version c.level) 49 c.tree
