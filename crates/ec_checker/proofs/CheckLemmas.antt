-- From what is found in a certificate to what the checker answers.
-- `refutes` and `plan_refutes` also serve `ec_cli_run` (`OneCheck`), where each certificate has one answer.
use Rattle.std.proofs.Common.{◌≡◌, ℕ, List, length, Option, Some, None, Result, Ok, Err, refl, sym, subst, ◌∙◌, ◌<◌, arith}
use Rattle.std.proofs.lemmas.List.{length-map}
use Rattle.ec_units.specs.declared.unit.Unit.{Unit as SyncUnit}
use Rattle.ec_units.specs.declared.unit.Load.{Load}
use Rattle.ec_units.specs.Load.{load_of, loads_of}
use Rattle.ec_loads.specs.Cost.{plan_items}
use Rattle.ec_loads.specs.Held.{Held, AreLoads, no_places}
use Rattle.ec_loads.specs.Line.{Rules, Line, line_by}
use Rattle.ec_loads.specs.Search.{TreeWith}
use Rattle.ec_loads.specs.Shape.{Shape}
use Rattle.ec_loads.proofs.CostLemmas.{one_busiest}
use Rattle.ec_loads.proofs.ItemLemmas.{AreLoads-loads_of}
use Rattle.ec_cert.specs.declared.cert.Best.{Best}
use Rattle.ec_cert.specs.Shapes.{CertView}
use Rattle.ec_cert.specs.Versions.{rules_of}
use Rattle.ec_symmetry.specs.Orders.{IsOrder}
use Rattle.ec_tree.specs.Trees.{TreesBound, LevelsBound}
use Rattle.ec_checker.specs.declared.fault.CheckFault.{CheckFault}
use Rattle.ec_checker.specs.declared.fault.CheckFault.TheVariants as fault
use Rattle.ec_checker.specs.declared.fault.Verdict.{Verdict}
use Rattle.ec_cert.specs.IsBestPlan.{value_of, IsBestPlan}
use Rattle.ec_checker.specs.Certified.{IsFor, HasHead, IsLevelIn, IsShown, IsCertified, verdict_of, tree_found, IsLevelFault, IsPlanFault, IsNodeFault, IsFaultOf, IsClaim}
use Rattle.ec_checker.specs.Judged.{tree_judged}
use Rattle.ec_checker.specs.Laws.{FaultsRefute}
use Rattle.ec_checker.proofs.FoundLemmas.{Found, open_is, found_tree}

abbrev IsTreeOf : List Load → ℕ → CertView → Type 0
IsTreeOf loads n c = TreeWith (open_is (line_by (rules_of c.version) loads n) c.level) (line_by (rules_of c.version) loads n) (value_of c.best) c.tree (no_places loads) c.order

-- a tree whose leaves hold, the open ones at the level, shows what it is to show; and the other way round
shown_from : (line : Line) (v level : Option ℕ) (tree : Shape) (order : List ℕ) → IsLevelIn level v → TreeWith (open_is line level) line v tree (no_places line.loads) order → IsShown line v level tree order
shown_from line v None tree order low h = h
shown_from line v (Some l) tree order low h = (low, h)

tree_of : (line : Line) (v level : Option ℕ) (tree : Shape) (order : List ℕ) → IsShown line v level tree order → TreeWith (open_is line level) line v tree (no_places line.loads) order
tree_of line v None tree order h = h
tree_of line v (Some l) tree order h = h.1

found_of : (units : List SyncUnit) (n : ℕ) (c : CertView) → Found (IsTreeOf (loads_of units) n c) (tree_found (loads_of units) n c)
found_of units n c = found_tree (line_by (rules_of c.version) (loads_of units) n) (value_of c.best) c.level c.tree (no_places (loads_of units)) c.order 0 (AreLoads-loads_of units)

pub tree_from : (units : List SyncUnit) (n : ℕ) (c : CertView) (k : ℕ) → IsLevelIn c.level (value_of c.best) → tree_found (loads_of units) n c ≡ Ok k → IsShown (line_by (rules_of c.version) (loads_of units) n) (value_of c.best) c.level c.tree c.order
tree_from units n c k low e =
    shown_from (line_by (rules_of c.version) (loads_of units) n) (value_of c.best) c.level c.tree c.order low (subst (Found (IsTreeOf (loads_of units) n c)) e (found_of units n c))

node_from : (units : List SyncUnit) (n : ℕ) (c : CertView) (e : CheckFault) → tree_found (loads_of units) n c ≡ Err e → IsNodeFault e × (¬ (IsShown (line_by (rules_of c.version) (loads_of units) n) (value_of c.best) c.level c.tree c.order))
node_from units n c e is =
    let found = subst (Found (IsTreeOf (loads_of units) n c)) is (found_of units n c) in
    (found.0, λ h. found.1 (tree_of (line_by (rules_of c.version) (loads_of units) n) (value_of c.best) c.level c.tree c.order h))

fault_by_node : (units : List SyncUnit) (n : ℕ) (c : CertView) (e : CheckFault) → HasHead units n c → tree_found (loads_of units) n c ≡ Err e → IsNodeFault e → IsFaultOf units n c e
fault_by_node units n c fault.OutOfMemory head is node = absurd node
fault_by_node units n c fault.OtherUnits head is node = absurd node
fault_by_node units n c fault.Order head is node = absurd node
fault_by_node units n c (fault.Plan e) head is node = absurd node
fault_by_node units n c (fault.Value s f) head is node = absurd node
fault_by_node units n c (fault.Children k w g) head is node = (head, is)
fault_by_node units n c (fault.Leaf k) head is node = (head, is)
fault_by_node units n c (fault.Depth k) head is node = (head, is)
fault_by_node units n c (fault.Level l v) head is node = absurd node

-- the first fault of a tree
pub fault_from : (units : List SyncUnit) (n : ℕ) (c : CertView) (e : CheckFault) → HasHead units n c → tree_found (loads_of units) n c ≡ Err e → IsFaultOf units n c e
fault_from units n c e head is = fault_by_node units n c e head is (node_from units n c e is).0

-- a fault of the level
pub level_fault : (units : List SyncUnit) (n : ℕ) (c : CertView) (e : CheckFault) → IsFor units n c → IsOrder (length units) c.order → IsBestPlan (loads_of units) n c.best → IsLevelFault c.level (value_of c.best) e → IsFaultOf units n c e
level_fault units n c fault.OutOfMemory same order best h = absurd h
level_fault units n c fault.OtherUnits same order best h = absurd h
level_fault units n c fault.Order same order best h = absurd h
level_fault units n c (fault.Plan e) same order best h = absurd h
level_fault units n c (fault.Value s f) same order best h = absurd h
level_fault units n c (fault.Children k w g) same order best h = absurd h
level_fault units n c (fault.Leaf k) same order best h = absurd h
level_fault units n c (fault.Depth k) same order best h = absurd h
level_fault units n c (fault.Level l v) same order best h = (same, order, best, h.0, h.1, h.2)

-- it is never want of memory
pub level_memory : (level value : Option ℕ) (e : CheckFault) → IsLevelFault level value e → e ≡ fault.OutOfMemory → ⊥
level_memory level value e h is = subst (IsLevelFault level value) is h

-- a level that is above the value isn't in it
level_above : (level value : Option ℕ) (l v : ℕ) → level ≡ Some l → value ≡ Some v → v < l → ¬ (IsLevelIn level value)
level_above level value l v is at above low =
    let own : IsLevelIn (Some l) (Some v) = subst (λ w. IsLevelIn (Some l) w) at (subst (λ w. IsLevelIn w value) is low) in
    absurd (omega (arith, own, above))

claim_of : TreesBound → LevelsBound → (line : Line) (best : Option Best) (level : Option ℕ) (tree : Shape) (order : List ℕ) → AreLoads line.loads → IsOrder (length line.loads) order → IsShown line (value_of best) level tree order → IsBestPlan line.loads line.slots best → IsClaim line.loads line.slots best (verdict_of best level)
claim_of trees levels line best (Some l) tree order within is shown right = (levels line (value_of best) l tree order within is shown, right)
claim_of trees levels line None None tree order within is shown right = λ plan legal. let h = trees line None tree order within is shown plan legal in let e = h.1 in absurd cc
claim_of trees levels line (Some b) None tree order within is shown right =
    (record { plan = b.plan.places; legal = right.0; busiest = right.1; bounds = trees line (Some b.busiest) tree order within is shown }, (b, refl, right.0, right.1))

-- what a yes claims
pub claim_from : TreesBound → LevelsBound → (units : List SyncUnit) (n : ℕ) (c : CertView) (v : Verdict) → IsCertified units n c → v ≡ verdict_of c.best c.level → IsClaim (loads_of units) n c.best v
claim_from trees levels units n c v is said =
    let loads = loads_of units in
    let order : IsOrder (length loads) c.order = subst (λ k. IsOrder k c.order) (sym (length-map units load_of)) is.head.order in
    subst (IsClaim loads n c.best) (sym said) (claim_of trees levels (line_by (rules_of c.version) loads n) c.best c.level c.tree c.order (AreLoads-loads_of units) order is.shown is.head.best)

pub plan_refutes : (loads : List Load) (n : ℕ) (best : Option Best) (e : CheckFault) → IsPlanFault loads n best e → ¬ (IsBestPlan loads n best)
plan_refutes loads n best fault.OutOfMemory h right = absurd h
plan_refutes loads n best fault.OtherUnits h right = absurd h
plan_refutes loads n best fault.Order h right = absurd h
plan_refutes loads n best (fault.Plan e) h right = let own = subst (IsBestPlan loads n) h.1 right in h.3 own.0
plan_refutes loads n best (fault.Value s f) h right =
    let own = subst (IsBestPlan loads n) h.1 right in
    h.5 (h.3 ∙ one_busiest (plan_items loads h.0.plan.places) n h.0.busiest f own.1 h.4)
plan_refutes loads n best (fault.Children k w g) h right = absurd h
plan_refutes loads n best (fault.Leaf k) h right = absurd h
plan_refutes loads n best (fault.Depth k) h right = absurd h
plan_refutes loads n best (fault.Level l v) h right = absurd h

pub refutes : FaultsRefute
refutes units n c fault.OutOfMemory other h = λ is. other refl
refutes units n c fault.OtherUnits other h = λ is. h is.head.same
refutes units n c fault.Order other h = λ is. h.1 is.head.order
refutes units n c (fault.Plan e) other h = λ is. plan_refutes (loads_of units) n c.best (fault.Plan e) h.2 is.head.best
refutes units n c (fault.Value s f) other h = λ is. plan_refutes (loads_of units) n c.best (fault.Value s f) h.2 is.head.best
refutes units n c (fault.Children k w g) other h = λ is. (node_from units n c (fault.Children k w g) h.1).1 is.shown
refutes units n c (fault.Leaf k) other h = λ is. (node_from units n c (fault.Leaf k) h.1).1 is.shown
refutes units n c (fault.Depth k) other h = λ is. (node_from units n c (fault.Depth k) h.1).1 is.shown
refutes units n c (fault.Level l v) other h = λ is. level_above c.level (value_of c.best) l v h.3 h.4 h.5 is.head.level

-- what the walk found
pub found_is : (loads : List Load) (n : ℕ) (c : CertView) (held : Held) (rules : Rules) (value level : Option ℕ) (order : List ℕ) (r : Result ℕ CheckFault) → held ≡ record { loads = loads; slots = n; places = no_places loads } → rules ≡ rules_of c.version → value ≡ value_of c.best → level ≡ c.level → order ≡ c.order → r ≡ tree_judged (line_by rules held.loads held.slots) value level c.tree held.places order 0 → r ≡ tree_found loads n c
found_is loads n c held rules value level order r at by val low ord is = is ∙ (λ j. tree_judged (line_by (by j) (at j).loads (at j).slots) (val j) (low j) c.tree (at j).places (ord j) 0)

-- what is found in a tree is never want of memory
pub tree_memory : (units : List SyncUnit) (n : ℕ) (c : CertView) (e : CheckFault) → tree_found (loads_of units) n c ≡ Err e → e ≡ fault.OutOfMemory → ⊥
tree_memory units n c e found is = subst IsNodeFault is (node_from units n c e found).0
