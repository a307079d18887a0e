-- What each outcome of a search says.
use Rattle.std.specs.Prelude.{◌≡◌, ℕ, ◌+◌, ◌<◌, ◌≤◌, nat_lt, Bool, true, false, List, length, map, Option, Some, None}
use Rattle.ec_units.specs.declared.slave.Place.{Place}
use Rattle.ec_units.specs.declared.unit.Unit.{Unit as SyncUnit}
use Rattle.ec_units.specs.declared.unit.Load.{Load}
use Rattle.ec_units.specs.Load.{loads_of}
use Rattle.ec_loads.specs.Cost.{plan_items, IsBusiest}
use Rattle.ec_loads.specs.Held.{no_places}
use Rattle.ec_loads.specs.Legal.{IsLegal}
use Rattle.ec_loads.specs.Line.{line_by}
use Rattle.ec_loads.specs.Shape.{Shape, open_leaf}
use Rattle.ec_loads.specs.Search.{IsPartialTree, IsAtMost, node_count, open_count}
use Rattle.ec_symmetry.specs.Orders.{IsOrder}
use Rattle.ec_cert.specs.declared.cert.Best.{Best}
use Rattle.ec_cert.specs.declared.part.Part.{Part}
use Rattle.ec_cert.specs.Shapes.{CertView, shape_of, cert_view}
use Rattle.ec_cert.specs.IsBestPlan.{value_of, IsBestPlan}
use Rattle.ec_checker.specs.Levels.{IsGreatestLevel}
use Rattle.ec_loads.specs.Held.{own_places}
use Rattle.ec_branch.specs.Weights.{IsSearchOrder}
use Rattle.ec_branch.specs.StrongOrders.{IsStrongOrder}
use Rattle.ec_book.specs.Finishing.{GrowsFrom}
use Rattle.ec_book.specs.Parts.{LeavesOthers, ClosesPart}
use Rattle.ec_outcome.specs.declared.search.Cut.{Cut}
use Rattle.ec_outcome.specs.declared.search.Cut.TheVariants as cut
use Rattle.ec_outcome.specs.declared.search.Outcome.{Outcome}
use Rattle.ec_outcome.specs.declared.search.SolveFault.{SolveFault}
use Rattle.ec_outcome.specs.declared.search.SolveFault.TheVariants as refused
use Rattle.ec_outcome.specs.declared.search.Outcome.TheVariants as outcome
use Rattle.ec_outcome.specs.Searched.{searched_by}
use Rattle.ec_workers.specs.Outcomes.{IsOptimal, IsWithoutPlan}

-- what a search was asked for: whether it goes by the strong rules, how many workers, how many nodes may be split and closed, the tree that it goes on with, and
-- into how many parts its open leaves are shared out, of which it goes on with one
pub record Asked : Type 0 where
  pub strong : Bool
  pub workers : ℕ
  pub nodes : ℕ
  pub given : Shape
  pub parts : ℕ

-- a certificate is of the strong rules from version 4 on
abbrev pub is_strong : CertView → Bool
is_strong c = nat_lt 3 c.version

-- of a search that begins afresh
abbrev pub asked_for : Bool → ℕ → ℕ → Asked
asked_for strong workers nodes = record { strong = strong; workers = workers; nodes = nodes; given = open_leaf; parts = 1 }

-- of one that goes on with a tree, and with one of so many parts of its open leaves
abbrev pub asked_beyond : Bool → ℕ → ℕ → Shape → ℕ → Asked
asked_beyond strong workers nodes given parts = record { strong = strong; workers = workers; nodes = nodes; given = given; parts = parts }

-- all nodes that were allowed are spent
abbrev pub IsSpent : Asked → Shape → Type 0
IsSpent asked tree = node_count tree ≡ node_count asked.given + asked.nodes

-- why a search ended without a proof: the book refused one of several workers, or their notes disagree, which neither does with one; else a leaf is open, and all
-- nodes are spent, else memory was refused, else the time was over, else there are other parts, to which the open leaves are left
abbrev pub IsCut : Asked → Shape → Cut → Type 0
IsCut asked tree cut.Journal = 1 < asked.workers
IsCut asked tree cut.Budget = IsSpent asked tree × (0 < open_count tree)
IsCut asked tree cut.Memory = (¬ (IsSpent asked tree)) × (0 < open_count tree)
IsCut asked tree cut.Time = (¬ (IsSpent asked tree)) × (0 < open_count tree)
IsCut asked tree cut.Parts = (1 < asked.parts) × (¬ (IsSpent asked tree)) × (0 < open_count tree)

-- the best plan, if any, is legal and costs what is stated, and the tree is a partial one at that value, by the rules that were asked for
pub record IsUnproved (units : List SyncUnit) (n : ℕ) (asked : Asked) (best : Option Best) (order : List ℕ) (tree : Shape) (strong : Bool) (why : Cut) : Type 0 where
  pub rules_is : strong ≡ asked.strong
  pub order_is : IsOrder (length units) order
  pub best_is : IsBestPlan (loads_of units) n best
  pub tree_is : IsPartialTree (line_by (searched_by strong) (loads_of units) n) (value_of best) tree (no_places (loads_of units)) order
  pub cut_is : IsCut asked tree why

-- what an outcome says of these units, where so many workers and nodes were asked for
abbrev pub IsOutcome : List SyncUnit → ℕ → Asked → Outcome → Type 0
IsOutcome units n asked (outcome.Optimal plan b cert) = IsOptimal units n plan.places b (cert_view cert)
IsOutcome units n asked (outcome.NoPlan cert) = IsWithoutPlan units n (cert_view cert)
IsOutcome units n asked (outcome.Unproved best order tree strong why) = IsUnproved units n asked best order (shape_of tree) strong why

-- the tree of an outcome: where it ended without a proof its own, else its certificate's
abbrev pub tree_in : Outcome → Shape
tree_in (outcome.Optimal plan b cert) = shape_of cert.tree
tree_in (outcome.NoPlan cert) = shape_of cert.tree
tree_in (outcome.Unproved best order tree strong why) = shape_of tree

-- what its best plan costs, if there is one
abbrev pub value_in : Outcome → Option ℕ
value_in (outcome.Optimal plan b cert) = Some b
value_in (outcome.NoPlan cert) = None
value_in (outcome.Unproved best order tree strong why) = value_of best

-- it goes on from a tree and a value: its tree has some tree in place of each open leaf of that one, its value is at most that one, and at most so many nodes are new
pub record GoesBeyond (given : Shape) (value : Option ℕ) (nodes : ℕ) (o : Outcome) : Type 0 where
  pub grows : GrowsFrom given (tree_in o)
  pub falls : IsAtMost (value_in o) value
  pub within : node_count (tree_in o) ≤ node_count given + nodes

-- it ended without a proof, for this reason
abbrev pub HasCut : Cut → Outcome → Type 0
HasCut why (outcome.Unproved best order tree strong is) = is ≡ why
HasCut why _ = ⊥

-- it goes on with a part of a tree's open leaves alone: it leaves those of the other parts open, and where it ended since there are other parts, each leaf of its own is closed
pub record KeepsToPart (part : Part) (given : Shape) (o : Outcome) : Type 0 where
  pub others : LeavesOthers part given (tree_in o)
  pub closed : HasCut cut.Parts o → ClosesPart part given (tree_in o)

-- every legal plan has a tick that costs at least what the outcome shows, and this is at least l: where it ended without a proof the greatest level of its tree, else
-- what its plan costs
abbrev pub HasLevelFrom : List SyncUnit → ℕ → ℕ → Outcome → Type 0
HasLevelFrom units n l (outcome.Optimal plan b cert) = l ≤ b
HasLevelFrom units n l (outcome.NoPlan cert) = Unit {0}
HasLevelFrom units n l (outcome.Unproved best order tree strong why) = (m : ℕ) → IsGreatestLevel (line_by (searched_by strong) (loads_of units) n) (value_of best) (shape_of tree) order m → l ≤ m

-- where each unit has a place of its own, and these are a legal plan, its plan costs at most what that costs
abbrev pub IsNoDearer : List SyncUnit → ℕ → Outcome → Type 0
IsNoDearer units n o = (ps : List Place) (b : ℕ) → own_places units ≡ map Some ps → IsLegal (loads_of units) n ps → IsBusiest (plan_items (loads_of units) ps) n b
    → IsAtMost (value_in o) (Some b)

-- why a search of so many workers has no outcome: memory was refused before it began, or none of several workers could be started
abbrev pub IsSolveFault : ℕ → SolveFault → Type 0
IsSolveFault workers refused.OutOfMemory = Unit {0}
IsSolveFault workers refused.Spawn = 1 < workers

-- the outcome has this order of the units: where it ended without a proof its own, else its certificate's
abbrev pub HasOrder : List ℕ → Outcome → Type 0
HasOrder order (outcome.Optimal plan b cert) = (cert_view cert).order ≡ order
HasOrder order (outcome.NoPlan cert) = (cert_view cert).order ≡ order
HasOrder order (outcome.Unproved best is tree strong why) = is ≡ order

-- the order in which a search places units of these loads
abbrev pub IsOrderBy : Bool → List Load → List ℕ → Type 0
IsOrderBy false loads order = IsSearchOrder loads order
IsOrderBy true loads order = IsStrongOrder loads order

-- its certificate, or where it ended without a proof its tree, is by the strong rules just where this says so
abbrev pub HasRules : Bool → Outcome → Type 0
HasRules strong (outcome.Optimal plan b cert) = is_strong (cert_view cert) ≡ strong
HasRules strong (outcome.NoPlan cert) = is_strong (cert_view cert) ≡ strong
HasRules strong (outcome.Unproved best order tree is why) = is ≡ strong

-- and the outcome's is that of such a search
abbrev pub HasSearchOrder : Bool → List Load → Outcome → Type 0
HasSearchOrder strong loads o = (order : List ℕ) × IsOrderBy strong loads order × HasOrder order o
