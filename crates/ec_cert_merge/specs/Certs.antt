-- Certificates of the same units, whether they fit together, and what is said of two at once.
use Rattle.std.specs.Prelude.{◌≡◌, ◌≢◌, ◌⊎◌, ℕ, ◌<◌, max, List, Option, Some, None}
use Rattle.ec_units.specs.declared.unit.Unit.{Unit as SyncUnit}
use Rattle.ec_loads.specs.Line.{Rules, slots_alone, turned_time, strong}
use Rattle.ec_loads.specs.Search.{IsAtMost, open_count}
use Rattle.ec_loads.specs.Shape.{Shape}
use Rattle.ec_cert.specs.declared.cert.Best.{Best}
use Rattle.ec_cert.specs.IsBestPlan.{value_of}
use Rattle.ec_cert.specs.Shapes.{CertView}
use Rattle.ec_cert.specs.Versions.{rules_of}
use Rattle.ec_cert.specs.WellFormed.{IsWellFormed}
use Rattle.ec_checker.specs.Certified.{IsCertified}
use Rattle.ec_cert_merge.specs.declared.fault.Misfit.{Misfit}
use Rattle.ec_cert_merge.specs.declared.fault.Misfit.TheVariants as misfit
use Rattle.ec_outcome.specs.declared.search.Outcome.{Outcome}
use Rattle.ec_outcome.specs.declared.search.Outcome.TheVariants as outcome

-- a certificate that has a text, and to which the checker says yes for these units
pub record IsProven (units : List SyncUnit) (n : ℕ) (c : CertView) : Type 0 where
  pub formed : IsWellFormed c
  pub certified : IsCertified units n c

-- two certificates place the units in one order, and make their trees by the same rules
pub record FitTogether (a b : CertView) : Type 0 where
  pub order : a.order ≡ b.order
  pub rules : rules_of a.version ≡ rules_of b.version

-- why they don't
abbrev pub IsMisfit : CertView → CertView → Misfit → Type 0
IsMisfit a b misfit.Order = a.order ≢ b.order
IsMisfit a b misfit.Rules = (a.order ≡ b.order) × (rules_of a.version ≢ rules_of b.version)

-- the version of certificates by these rules, with a level and without one
abbrev pub version_by : Rules → Option ℕ → ℕ
version_by slots_alone level = 1
version_by turned_time None = 2
version_by turned_time (Some level) = 3
version_by strong level = 4

-- of two best plans the lesser one, and of two as good the first
pub record IsLesserBest (a b best : Option Best) : Type 0 where
  pub one : (best ≡ a) ⊎ (best ≡ b)
  pub first : IsAtMost (value_of best) (value_of a)
  pub second : IsAtMost (value_of best) (value_of b)
  pub same : IsAtMost (value_of a) (value_of b) → best ≡ a

-- the greater of two levels, just where a leaf is open
abbrev pub IsLevelOfBoth : Option ℕ → Option ℕ → Shape → Option ℕ → Type 0
IsLevelOfBoth a b tree None = open_count tree ≡ 0
IsLevelOfBoth a b tree (Some l) = (0 < open_count tree) × (x : ℕ) × (y : ℕ) × (a ≡ Some x) × (b ≡ Some y) × (l ≡ max x y)

-- the outcome is proved
abbrev pub IsProved : Outcome → Type 0
IsProved (outcome.Optimal plan b cert) = Unit {0}
IsProved (outcome.NoPlan cert) = Unit {0}
IsProved (outcome.Unproved best order tree by why) = ⊥

-- the outcome has this best plan, if there is one: where it ended without a proof its own, else its certificate's
abbrev pub HasBest : Option Best → Outcome → Type 0
HasBest best (outcome.Optimal plan b cert) = cert.best ≡ best
HasBest best (outcome.NoPlan cert) = cert.best ≡ best
HasBest best (outcome.Unproved is order tree by why) = is ≡ best
