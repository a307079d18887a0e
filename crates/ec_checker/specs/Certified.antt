-- Which certificates the checker says yes to, what a yes claims, and what each fault says.
use Rattle.std.specs.Prelude.{◌≡◌, ◌≢◌, ℕ, ◌<◌, List, map, length, Option, Some, None, Result, Ok, Err}
use Rattle.ec_units.specs.declared.unit.Unit.{Unit as SyncUnit}
use Rattle.ec_units.specs.declared.unit.Load.{Load}
use Rattle.ec_units.specs.Bytes.{bytes_of_slaves}
use Rattle.ec_units.specs.Load.{loads_of}
use Rattle.ec_loads.specs.Cost.{plan_items, IsBusiest}
use Rattle.ec_loads.specs.Held.{no_places}
use Rattle.ec_loads.specs.Legal.{IsLegal, IsIllegalBy}
use Rattle.ec_loads.specs.Line.{Line, line_by}
use Rattle.ec_loads.specs.Search.{IsTree, IsAtMost, ShowsLevel, BoundsAll, IsLeast, HasNoPlan}
use Rattle.ec_loads.specs.Shape.{Shape}
use Rattle.ec_symmetry.specs.Orders.{IsOrder}
use Rattle.ec_cert.specs.declared.lists.UnitLine.{UnitLine}
use Rattle.ec_cert.specs.declared.cert.Best.{Best}
use Rattle.ec_cert.specs.IsBestPlan.{value_of, IsBestPlan}
use Rattle.ec_cert.specs.Shapes.{CertView}
use Rattle.ec_cert.specs.Versions.{rules_of}
use Rattle.ec_checker.specs.declared.fault.CheckFault.{CheckFault}
use Rattle.ec_checker.specs.declared.fault.CheckFault.TheVariants as fault
use Rattle.ec_checker.specs.declared.fault.Verdict.{Verdict}
use Rattle.ec_checker.specs.declared.fault.Verdict.TheVariants as verdict
use Rattle.ec_checker.specs.Judged.{tree_judged}

-- what a certificate says of a unit
abbrev pub line_of : SyncUnit → UnitLine
line_of u = record { name = u.name; bytes = bytes_of_slaves u.slaves; period = u.period }

abbrev pub lines_of : List SyncUnit → List UnitLine
lines_of units = map line_of units

-- the slots and the names, bytes and periods of the units are the same
pub record IsFor (units : List SyncUnit) (n : ℕ) (c : CertView) : Type 0 where
  pub slots : c.slots ≡ n
  pub lines : c.units ≡ lines_of units

-- the level, if there is one, isn't above the value
abbrev pub IsLevelIn : Option ℕ → Option ℕ → Type 0
IsLevelIn None v = Unit {0}
IsLevelIn (Some l) v = IsAtMost (Some l) v

-- all that stands before the tree is right
pub record HasHead (units : List SyncUnit) (n : ℕ) (c : CertView) : Type 0 where
  pub same : IsFor units n c
  pub order : IsOrder (length units) c.order
  pub best : IsBestPlan (loads_of units) n c.best
  pub level : IsLevelIn c.level (value_of c.best)

-- the tree is one for the empty prefix at the value, without open leaves; or it shows the level
abbrev pub IsShown : Line → Option ℕ → Option ℕ → Shape → List ℕ → Type 0
IsShown line v None tree order = IsTree line v tree (no_places line.loads) order
IsShown line v (Some l) tree order = ShowsLevel line v l tree (no_places line.loads) order

-- the checker says yes: what stands before the tree is right, and the tree shows the value, or the level where there is one, by the rules of the certificate's version
pub record IsCertified (units : List SyncUnit) (n : ℕ) (c : CertView) : Type 0 where
  pub head : HasHead units n c
  pub shown : IsShown (line_by (rules_of c.version) (loads_of units) n) (value_of c.best) c.level c.tree c.order

-- what is shown: a level says no more than that, whether there is a best plan or none
abbrev pub verdict_of : Option Best → Option ℕ → Verdict
verdict_of best (Some l) = verdict.AtLeast l
verdict_of None None = verdict.NoPlan
verdict_of (Some b) None = verdict.Least b.busiest

-- what is found in the tree, by the rules of the certificate's version
abbrev pub tree_found : List Load → ℕ → CertView → Result ℕ CheckFault
tree_found loads n c = tree_judged (line_by (rules_of c.version) loads n) (value_of c.best) c.level c.tree (no_places loads) c.order 0

-- the fault is one of the best plan
abbrev pub IsPlanFault : List Load → ℕ → Option Best → CheckFault → Type 0
IsPlanFault loads n best (fault.Plan e) = (b : Best) × (best ≡ Some b) × IsIllegalBy loads n b.plan.places e × (¬ (IsLegal loads n b.plan.places))
IsPlanFault loads n best (fault.Value stated found) =
    (b : Best) × (best ≡ Some b) × IsLegal loads n b.plan.places × (stated ≡ b.busiest) × IsBusiest (plan_items loads b.plan.places) n found × (stated ≢ found)
IsPlanFault loads n best e = ⊥

-- the fault is a level that is above the value
abbrev pub IsLevelFault : Option ℕ → Option ℕ → CheckFault → Type 0
IsLevelFault level value (fault.Level l v) = (level ≡ Some l) × (value ≡ Some v) × (v < l)
IsLevelFault level value e = ⊥

-- the fault is one of a node
abbrev pub IsNodeFault : CheckFault → Type 0
IsNodeFault (fault.Children node want got) = Unit {0}
IsNodeFault (fault.Leaf node) = Unit {0}
IsNodeFault (fault.Depth node) = Unit {0}
IsNodeFault e = ⊥

-- the fault is there, and none that is judged before it is; memory may be refused at any point
abbrev pub IsFaultOf : List SyncUnit → ℕ → CertView → CheckFault → Type 0
IsFaultOf units n c fault.OutOfMemory = Unit {0}
IsFaultOf units n c fault.OtherUnits = ¬ (IsFor units n c)
IsFaultOf units n c fault.Order = IsFor units n c × (¬ (IsOrder (length units) c.order))
IsFaultOf units n c (fault.Plan e) = IsFor units n c × IsOrder (length units) c.order × IsPlanFault (loads_of units) n c.best (fault.Plan e)
IsFaultOf units n c (fault.Value stated found) = IsFor units n c × IsOrder (length units) c.order × IsPlanFault (loads_of units) n c.best (fault.Value stated found)
IsFaultOf units n c (fault.Children node want got) = HasHead units n c × (tree_found (loads_of units) n c ≡ Err (fault.Children node want got))
IsFaultOf units n c (fault.Leaf node) = HasHead units n c × (tree_found (loads_of units) n c ≡ Err (fault.Leaf node))
IsFaultOf units n c (fault.Depth node) = HasHead units n c × (tree_found (loads_of units) n c ≡ Err (fault.Depth node))
IsFaultOf units n c (fault.Level level value) =
    IsFor units n c × IsOrder (length units) c.order × IsBestPlan (loads_of units) n c.best × (c.level ≡ Some level) × (value_of c.best ≡ Some value) × (value < level)

-- what the checker answers: yes with the verdict of the best plan and the level, or the first fault
abbrev pub IsAnswer : List SyncUnit → ℕ → CertView → Result Verdict CheckFault → Type 0
IsAnswer units n c (Ok v) = IsCertified units n c × (v ≡ verdict_of c.best c.level)
IsAnswer units n c (Err e) = IsFaultOf units n c e

-- what a verdict claims of all legal plans, and of the certificate's own
abbrev pub IsClaim : List Load → ℕ → Option Best → Verdict → Type 0
IsClaim loads n best (verdict.Least v) =
    IsLeast loads n v × ((b : Best) × (best ≡ Some b) × IsLegal loads n b.plan.places × IsBusiest (plan_items loads b.plan.places) n v)
IsClaim loads n best verdict.NoPlan = HasNoPlan loads n
IsClaim loads n best (verdict.AtLeast l) = BoundsAll loads n (Some l) × IsBestPlan loads n best
