-- When an older certificate isn't to make room for a newer one.
use Rattle.std.specs.Prelude.{◌≡◌, ◌⊎◌, ℕ, ◌<◌, min, Option, Some, None}
use Rattle.ec_loads.specs.Search.{IsAtMost, node_count}
use Rattle.ec_cert.specs.IsBestPlan.{value_of}
use Rattle.ec_cert.specs.Shapes.{CertView}

-- they are for the same slots and units
abbrev pub AreForOneLine : CertView → CertView → Type 0
AreForOneLine older newer = (older.slots ≡ newer.slots) × (older.units ≡ newer.units)

-- the older one shows more than a level: it is a proof, or its level is higher
abbrev pub ShowsMore : Option ℕ → ℕ → Type 0
ShowsMore None level = Unit {0}
ShowsMore (Some l) level = level < l

-- the nodes of its tree, as far as they can be counted
abbrev pub counted : CertView → ℕ
counted c = min (node_count c.tree) 18446744073709551615

-- they have the same value and the same level, and the older one has more nodes
pub record HasMoreNodes (older newer : CertView) : Type 0 where
  pub value : value_of older.best ≡ value_of newer.best
  pub level : older.level ≡ newer.level
  pub nodes : counted newer < counted older

-- the older one is of the same line, and the newer one, which is no proof, shows less, has a plan that costs more or none, or says the same with fewer nodes
abbrev pub SaysMore : CertView → CertView → Type 0
SaysMore older newer =
    AreForOneLine older newer × ((level : ℕ) × (newer.level ≡ Some level) × (ShowsMore older.level level ⊎ ((¬ (IsAtMost (value_of newer.best) (value_of older.best))) ⊎ HasMoreNodes older newer)))
