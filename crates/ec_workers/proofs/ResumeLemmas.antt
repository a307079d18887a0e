-- A certificate that a search can go on with is of version 3 or 4, and its tree is a partial one; what is made of it has its nodes.
use Rattle.std.proofs.Common.{◌≡◌, ℕ, ◌+◌, ◌<◌, ◌≤◌, nat_lt, if◌then◌else◌, Bool, true, false, refl, ◌∙◌, All, List, length, Option, Some, None, Result, Ok, Err, IfOk, subst, sym, ap, arith}
use Rattle.std.proofs.lemmas.List.{length-map}
use Rattle.std.proofs.lemmas.Bool.{lt-ltb}
use Rattle.ec_units.specs.declared.slave.Place.{Place}
use Rattle.ec_units.specs.declared.unit.Load.{Load}
use Rattle.ec_units.specs.declared.unit.Unit.{Unit as SyncUnit}
use Rattle.ec_units.specs.Load.{load_of, loads_of}
use Rattle.ec_loads.specs.Cost.{plan_items, IsBusiest}
use Rattle.ec_loads.specs.Legal.{IsLegal}
use Rattle.ec_loads.specs.Held.{no_places}
use Rattle.ec_loads.specs.Line.{Rules, rules_if, strong as strongly, line_by}
use Rattle.ec_loads.specs.Shape.{Shape}
use Rattle.ec_loads.specs.Search.{TreeWith, IsPartialTree, IsAtMost, BoundsAll, LevelHolds, ShowsLevel, node_count}
use Rattle.ec_loads.proofs.ItemLemmas.{AreLoads-loads_of}
use Rattle.ec_bounds.proofs.LeftLemmas.{some_same}
use Rattle.ec_symmetry.specs.Orders.{IsOrder}
use Rattle.ec_tree.specs.Trees.{LevelsBound}
use Rattle.ec_cert.specs.declared.cert.Best.{Best}
use Rattle.ec_cert.specs.declared.part.Part.{Part}
use Rattle.ec_cert.specs.IsBestPlan.{value_of, IsBestPlan}
use Rattle.ec_cert.specs.Shapes.{CertView, shape_of}
use Rattle.ec_cert.specs.Versions.{rules_of}
use Rattle.ec_cert.specs.LeafKinds.{kinds_in}
use Rattle.ec_cert.specs.WellFormed.{IsLevelLine}
use Rattle.ec_checker.specs.Certified.{IsShown}
use Rattle.ec_checker.proofs.HeadLemmas.{order_ready}
use Rattle.ec_book.specs.Finishing.{GrowsFrom}
use Rattle.ec_book.specs.declared.book.Finished.{Finished}
use Rattle.ec_search_threads.specs.IsCrewed.{IsCrewed}
use Rattle.ec_search_threads.proofs.TieLemmas.{least-at, at_most-best}
use Rattle.ec_outcome.specs.declared.search.Outcome.{Outcome}
use Rattle.ec_outcome.specs.declared.search.Outcome.TheVariants as outcome
use Rattle.ec_outcome.specs.declared.search.SolveFault.{SolveFault}
use Rattle.ec_workers.specs.Answers.{Asked, GoesBeyond, HasLevelFrom, HasOrder, IsOutcome, tree_in}
use Rattle.ec_outcome.specs.Searched.{searched_by}
use Rattle.ec_workers.specs.Outcomes.{IsPartialCert}
use Rattle.ec_workers.specs.Answers.{is_strong}
use Rattle.ec_checker.proofs.BelowLemmas.{slots-none}
use Rattle.ec_workers.proofs.RiseLemmas.{tree-rises}
use Rattle.ec_workers.proofs.LevelLemmas.{tree-partial, tree-short}

-- from version 3 on the rules are those of a search
level-rules : (version : ℕ) → 3 ≤ version → rules_of version ≡ searched_by (nat_lt 3 version)
level-rules version least = cases (nat_lt 3 version) refl
  where
    cases : (b : Bool) → nat_lt 3 version ≡ b → rules_of version ≡ searched_by b
    cases true is = ap (λ w. if w then strongly else rules_if (nat_lt 1 version)) is
    cases false is = ap (λ w. if w then strongly else rules_if (nat_lt 1 version)) is ∙ ap rules_if (lt-ltb 1 version (omega (arith, least)))

shows_level : (us : List SyncUnit) (n : ℕ) (c : CertView) (p : IsPartialCert us n c) → ShowsLevel (line_by (searched_by (is_strong c)) (loads_of us) n) (value_of c.best) p.level.0 c.tree (no_places (loads_of us)) c.order
shows_level us n c p =
    let line : IsLevelLine c.version (Some p.level.0) = subst (λ l. IsLevelLine c.version l) p.level.1 p.formed.level in
    let shown : IsShown (line_by (rules_of c.version) (loads_of us) n) (value_of c.best) (Some p.level.0) c.tree c.order =
    subst (λ l. IsShown (line_by (rules_of c.version) (loads_of us) n) (value_of c.best) l c.tree c.order) p.level.1 p.certified.shown in
    subst (λ r. IsShown (line_by r (loads_of us) n) (value_of c.best) (Some p.level.0) c.tree c.order) (level-rules c.version line.0) shown

pub goes-on : (us : List SyncUnit) (n : ℕ) (c : CertView) → IsPartialCert us n c → IsPartialTree (line_by (searched_by (is_strong c)) (loads_of us) n) (value_of c.best) c.tree (no_places (loads_of us)) c.order
goes-on us n c p =
    let line = line_by (searched_by (is_strong c)) (loads_of us) n in
    let shows = shows_level us n c p in
    (tree-partial (λ qs _. LevelHolds line (Some p.level.0) qs) line (value_of c.best) c.tree (no_places (loads_of us)) c.order shows.1, tree-short (kinds_in c.version c.level) 49 c.tree p.formed.tree)

-- its level is the one that it states
abbrev at_level : (us : List SyncUnit) (n : ℕ) (c : CertView) (l : ℕ) → IsPartialCert us n c → c.level ≡ Some l → IsPartialCert us n c
at_level us n c l p is = record { formed = p.formed; certified = p.certified; level = (l, is) }

range : (us : List SyncUnit) (n : ℕ) (c : CertView) (l : ℕ) → IsPartialCert us n c → c.level ≡ Some l → l ≤ 12304
range us n c l p is = let line : IsLevelLine c.version (Some l) = subst (λ w. IsLevelLine c.version w) is p.formed.level in line.1

bounded : LevelsBound → (us : List SyncUnit) (n : ℕ) (c : CertView) (l : ℕ) → IsPartialCert us n c → c.level ≡ Some l → BoundsAll (loads_of us) n (Some l)
bounded law us n c l p is =
    law (line_by (searched_by (is_strong c)) (loads_of us) n) (value_of c.best) l c.tree c.order (AreLoads-loads_of us)
    (subst (λ k. IsOrder k c.order) (sym (length-map us load_of)) p.certified.head.order) (shows_level us n c (at_level us n c l p is))

-- what several workers made of a tree has its nodes and those that they split and closed
pub crewed-nodes : (us : List SyncUnit) (n : ℕ) (order : List ℕ) (rules : Rules) (given : Shape) (value : Option ℕ) (nodes : ℕ) (part : Part) (f : Finished) → IsCrewed us n order rules given value nodes part f → node_count (shape_of f.tree) ≡ node_count given + f.spent
crewed-nodes us n order rules given value nodes part f (b, of, began, is) =
    let all = is.nodes in
    let spent = is.spent in
    let given_is : node_count b.given ≡ node_count given = ap node_count began.given_is in
    omega (arith, all, spent, given_is)

-- ---- the level doesn't fall

-- an outcome whose tree grows from that of a certificate shows at least its level
pub level-rises : LevelsBound → (us : List SyncUnit) (n : ℕ) (asked : Asked) (c : CertView) (l : ℕ) (o : Outcome) → IsPartialCert us n c → c.level ≡ Some l → asked.strong ≡ is_strong c → IsOutcome us n asked o → HasOrder c.order o → GrowsFrom c.tree (tree_in o) → HasLevelFrom us n l o
level-rises law us n asked c l (outcome.Optimal plan b cert) p is by found order_is grows =
    least-at (loads_of us) n l plan.places b (bounded law us n c l p is) found.legal found.busiest
level-rises law us n asked c l (outcome.NoPlan cert) p is by found order_is grows = tt
level-rises law us n asked c l (outcome.Unproved best order tree strong why) p is by found order_is grows = λ m greatest.
    let line = line_by (searched_by strong) (loads_of us) n in
    let shows = subst (λ b. ShowsLevel (line_by (searched_by b) (loads_of us) n) (value_of c.best) l c.tree (no_places (loads_of us)) c.order) (sym (found.rules_is ∙ by)) (shows_level us n c (at_level us n c l p is)) in
    let count : length (loads_of us) ≡ length us = length-map us load_of in
    let few : All (λ u. u < length (loads_of us)) order = subst (λ k. All (λ u. u < k) order) (sym count) found.order_is.below in
    let old = subst (λ w. TreeWith (λ qs _. LevelHolds line (Some l) qs) line (value_of c.best) c.tree (no_places (loads_of us)) w) (sym order_is) shows.1 in
    let partial = subst (λ t. TreeWith (λ _ _. Unit {0}) line (value_of best) t (no_places (loads_of us)) order) grows.1 found.tree_is.0 in
    let above =
    tree-rises line (Some l) (AreLoads-loads_of us) grows.0 (value_of c.best) (value_of best) c.tree 0 (no_places (loads_of us)) order
    (order_ready (loads_of us) (length us) order (sym count) found.order_is) (slots-none n (loads_of us)) few old partial in
    greatest.greatest l (range us n c l p is) (at_most-best (loads_of us) n l best (bounded law us n c l p is) found.best_is, subst (λ t. TreeWith (λ qs _. LevelHolds line (Some l) qs) line (value_of best) t (no_places (loads_of us)) order) (sym grows.1) above)

-- the same of what a search answers
pub all-rise : LevelsBound → (us : List SyncUnit) (n : ℕ) (asked : Asked) (c : CertView) (nodes : ℕ) (r : Result Outcome SolveFault) → IsPartialCert us n c → asked.strong ≡ is_strong c → IfOk r (IsOutcome us n asked) → IfOk r (HasOrder c.order) → IfOk r (GoesBeyond c.tree (value_of c.best) nodes)
    → IfOk r (λ o. (l : ℕ) → c.level ≡ Some l → HasLevelFrom us n l o)
all-rise law us n asked c nodes (Ok o) p by found order_is beyond = λ l is. level-rises law us n asked c l o p is by found order_is beyond.grows
all-rise law us n asked c nodes (Err e) p by found order_is beyond = tt
