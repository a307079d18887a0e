-- What the answers of a search mean.
use Rattle.std.specs.Prelude.{◌≡◌, ◌⊎◌, ℕ, ◌≤◌, Bool, true, false, List, length, Option, Some, None, Result, Ok, Err}
use Rattle.ec_units.specs.declared.slave.Place.{Place}
use Rattle.ec_units.specs.declared.unit.Unit.{Unit as SyncUnit}
use Rattle.ec_units.specs.Load.{loads_of}
use Rattle.ec_loads.specs.Cost.{plan_items, IsBusiest}
use Rattle.ec_loads.specs.Legal.{IsLegal}
use Rattle.ec_loads.specs.Held.{no_places}
use Rattle.ec_loads.specs.Line.{line_by}
use Rattle.ec_loads.specs.Search.{BoundsAll, HasNoPlan, IsTree, HasShortTicks}
use Rattle.ec_symmetry.specs.Orders.{IsOrder}
use Rattle.ec_cert.specs.declared.cert.Best.{Best}
use Rattle.ec_cert.specs.Shapes.{CertView}
use Rattle.ec_cert.specs.WellFormed.{IsWellFormed}
use Rattle.ec_loads.specs.Shape.{Shape}
use Rattle.ec_cert.specs.IsBestPlan.{value_of, IsBestPlan}
use Rattle.ec_checker.specs.Certified.{lines_of, IsCertified, IsAnswer}
use Rattle.ec_checker.specs.declared.fault.CheckFault.{CheckFault}
use Rattle.ec_checker.specs.declared.fault.CheckFault.TheVariants as fault
use Rattle.ec_checker.specs.declared.fault.Verdict.{Verdict}
use Rattle.ec_checker.specs.declared.fault.Verdict.TheVariants as verdict
use Rattle.ec_outcome.specs.Searched.{searched_by}

-- the versions of the certificates of a search: with a proof, and without one
abbrev pub proof_version : Bool → ℕ
proof_version false = 2
proof_version true = 4

abbrev pub partial_version : Bool → ℕ
partial_version false = 3
partial_version true = 4

-- the certificate of these units with this order, best plan and tree, of a search by the strong rules or another one
abbrev pub cert_for : List SyncUnit → ℕ → Bool → List ℕ → Option Best → Shape → CertView
cert_for units n strong order best tree = record { version = proof_version strong; slots = n; units = lines_of units; order = order; best = best; level = None; tree = tree }

-- that of a search that ended without a proof, with the level that its tree shows
abbrev pub partial_for : List SyncUnit → ℕ → Bool → List ℕ → Option Best → ℕ → Shape → CertView
partial_for units n strong order best level tree = record { version = partial_version strong; slots = n; units = lines_of units; order = order; best = best; level = Some level; tree = tree }

-- what a search without open leaves has found: a plan that is legal and costs what is stated, if any, and a tree for the empty prefix at that value
pub record IsFound (us : List SyncUnit) (n : ℕ) (strong : Bool) (order : List ℕ) (best : Option Best) (tree : Shape) : Type 0 where
  pub order_is : IsOrder (length us) order
  pub best_is : IsBestPlan (loads_of us) n best
  pub short : HasShortTicks tree
  pub tree_is : IsTree (line_by (searched_by strong) (loads_of us) n) (value_of best) tree (no_places (loads_of us)) order

-- a certificate of the units that has a text, and to which the checker says yes with this verdict, or that memory ran out
pub record Shows (units : List SyncUnit) (n : ℕ) (c : CertView) (v : Verdict) : Type 0 where
  pub formed : IsWellFormed c
  pub certified : IsCertified units n c
  pub checked : (r : Result Verdict CheckFault) → IsAnswer units n c r → (r ≡ Ok v) ⊎ (r ≡ Err fault.OutOfMemory)

-- the plan is legal, its busiest tick costs b, every legal plan has a tick that costs at least b, and the certificate holds the plan and shows it
pub record IsOptimal (units : List SyncUnit) (n : ℕ) (plan : List Place) (b : ℕ) (c : CertView) : Type 0 where
  pub legal : IsLegal (loads_of units) n plan
  pub busiest : IsBusiest (plan_items (loads_of units) plan) n b
  pub bounds : BoundsAll (loads_of units) n (Some b)
  pub held : (x : Best) × (c.best ≡ Some x) × (x.busiest ≡ b) × (x.plan.places ≡ plan)
  pub shows : Shows units n c (verdict.Least b)

-- no plan is legal, and the certificate, which holds none, shows it
pub record IsWithoutPlan (units : List SyncUnit) (n : ℕ) (c : CertView) : Type 0 where
  pub none : HasNoPlan (loads_of units) n
  pub held : c.best ≡ None
  pub shows : Shows units n c verdict.NoPlan

-- a certificate that a search can go on with: it has a text, the checker says yes to it, and it shows no more than a level
pub record IsPartialCert (units : List SyncUnit) (n : ℕ) (c : CertView) : Type 0 where
  pub formed : IsWellFormed c
  pub certified : IsCertified units n c
  pub level : (l : ℕ) × (c.level ≡ Some l)
