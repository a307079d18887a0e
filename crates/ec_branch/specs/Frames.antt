-- What no call changes of a guide, and what a value in use keeps.
use Rattle.std.specs.Prelude.{ℕ, ◌≤◌, List, Option, Some}
use Rattle.ec_units.specs.declared.unit.Load.{Load}
use Rattle.ec_loads.specs.Search.{BoundsAll, IsAtMost}

-- the units and the slots that a guide is for, and its floor, below which its values don't fall
pub record Frame : Type 0 where
  pub loads : List Load
  pub slots : ℕ
  pub floor : ℕ

-- no number up to the floor that bounds every legal plan is above the value
abbrev pub IsFair : ℕ → List Load → ℕ → Option ℕ → Type 0
IsFair floor loads n v = (x : ℕ) → x ≤ floor → BoundsAll loads n (Some x) → IsAtMost (Some x) v
