-- The merge of two proven certificates is one.
-- `made-proven` puts the parts of a certificate together; `merged-proven` and `settled-proven` give them.
use Rattle.std.proofs.Common.{◌≡◌, ◌⊎◌, ℕ, zero, suc, ◌<◌, ◌≤◌, max, is_some, nat_lt, nat_le, true, false, All, List, ◌∷◌, length, set, Option, Some, None, refl, sym, ap, ◌∙◌, subst, arith, inl, inr}
use Rattle.std.proofs.lemmas.Bool.{cases_lt}
use Rattle.std.proofs.lemmas.List.{length-map}
use Rattle.std.proofs.lemmas.List.Elements.{All-tail}
use Rattle.ec_units.specs.declared.slave.Place.{Place}
use Rattle.ec_units.specs.declared.unit.Unit.{Unit as SyncUnit}
use Rattle.ec_units.specs.declared.unit.Load.{Load}
use Rattle.ec_units.specs.Load.{load_of, loads_of}
use Rattle.ec_loads.specs.Cost.{plan_items, IsBusiest}
use Rattle.ec_loads.specs.Held.{AreLoads, no_places}
use Rattle.ec_loads.specs.Legal.{IsLegal}
use Rattle.ec_loads.specs.Line.{Rules, slots_alone, turned_time, strong, Line, line_by}
use Rattle.ec_loads.specs.Shape.{Shape}
use Rattle.ec_loads.specs.Search.{Prefix, children, TreeWith, IsTree, IsAtMost, LevelHolds, BoundsAll, open_count}
use Rattle.ec_loads.proofs.ItemLemmas.{AreLoads-loads_of}
use Rattle.ec_bounds.proofs.LeftLemmas.{some_same}
use Rattle.ec_symmetry.specs.Orders.{IsOrder}
use Rattle.ec_symmetry.specs.Reached.{In}
use Rattle.ec_tree.specs.Trees.{LevelsBound}
use Rattle.ec_cert.specs.declared.cert.Best.{Best}
use Rattle.ec_cert.specs.declared.kinds.Kinds.{Kinds}
use Rattle.ec_cert.specs.IsBestPlan.{value_of, IsBestPlan}
use Rattle.ec_cert.specs.LeafKinds.{kinds_in}
use Rattle.ec_cert.specs.Shapes.{CertView}
use Rattle.ec_cert.specs.Versions.{rules_of}
use Rattle.ec_cert.specs.WellFormed.{HasLevels, IsBestOrNone, IsLevelLine}
use Rattle.ec_checker.specs.Certified.{IsLevelIn, IsShown}
use Rattle.ec_checker.specs.Judged.{IsReady}
use Rattle.ec_checker.proofs.HeadLemmas.{order_ready}
use Rattle.ec_book.proofs.TreeLemmas.{tree-lower, tree-weaker, tree-closed, no-open}
use Rattle.ec_checker.specs.Levels.{AreIn}
use Rattle.ec_checker.proofs.BelowLemmas.{slots-set, slots-none, children-are, level-below}
use Rattle.ec_cert_merge.specs.Certs.{IsProven, FitTogether, version_by, IsLesserBest, IsLevelOfBoth}
use Rattle.ec_cert_merge.specs.Merged.{AreAlike, IsMerged}
use Rattle.ec_cert_merge.proofs.BothLemmas.{both, merged-is, one-closed}
use Rattle.ec_cert_merge.proofs.TreeLemmas.{Opens, Any, tree-both, any-both, trees-alike, levels-both, levels-kinds}

-- ---- what is shown

-- what an open leaf has to be under a level; without one there is none
abbrev Opened : Line → Option ℕ → Opens
Opened line None = λ _ _. ⊥
Opened line (Some l) = λ ps _. LevelHolds line (Some l) ps

abbrev line_for : List SyncUnit → ℕ → CertView → Line
line_for us n c = line_by (rules_of c.version) (loads_of us) n

tree-of : (line : Line) (v level : Option ℕ) (tree : Shape) (order : List ℕ) → IsShown line v level tree order → TreeWith (Opened line level) line v tree (no_places line.loads) order
tree-of line v None tree order h = h
tree-of line v (Some l) tree order h = h.1

first-tree : (us : List SyncUnit) (n : ℕ) (x : CertView) → IsProven us n x → TreeWith (Opened (line_for us n x) x.level) (line_for us n x) (value_of x.best) x.tree (no_places (loads_of us)) x.order
first-tree us n x p = tree-of (line_for us n x) (value_of x.best) x.level x.tree x.order p.certified.shown

-- the second's tree is one of the first's line
second-tree : (us : List SyncUnit) (n : ℕ) (x y : CertView) → IsProven us n y → FitTogether x y → TreeWith (Opened (line_for us n x) y.level) (line_for us n x) (value_of y.best) y.tree (no_places (loads_of us)) x.order
second-tree us n x y q fit =
    subst (λ r. TreeWith (Opened (line_by r (loads_of us) n) y.level) (line_by r (loads_of us) n) (value_of y.best) y.tree (no_places (loads_of us)) x.order) (sym fit.rules)
    (subst (λ o. TreeWith (Opened (line_for us n y) y.level) (line_for us n y) (value_of y.best) y.tree (no_places (loads_of us)) o) (sym fit.order) (first-tree us n y q))

any-of : (is : Opens) (line : Line) (v : Option ℕ) (t : Shape) (ps : Prefix) (order : List ℕ) → TreeWith is line v t ps order → TreeWith Any line v t ps order
any-of is line v t ps order h = tree-weaker is Any (λ _ _ _. tt) line v t ps order h

pub alike : (us : List SyncUnit) (n : ℕ) (x y : CertView) → IsProven us n x → IsProven us n y → FitTogether x y → AreAlike x.tree y.tree
alike us n x y p q fit =
    trees-alike (Opened (line_for us n x) x.level) (Opened (line_for us n x) y.level) (line_for us n x) (value_of x.best) (value_of y.best) x.tree y.tree (no_places (loads_of us)) x.order (first-tree us n x p) (second-tree us n x y q fit)

-- without a level no leaf is open
pub none-open : (us : List SyncUnit) (n : ℕ) (x : CertView) → IsProven us n x → x.level ≡ None → open_count x.tree ≡ 0
none-open us n x p is =
    no-open (line_for us n x) (value_of x.best) x.tree (no_places (loads_of us)) x.order (subst (λ l. IsShown (line_for us n x) (value_of x.best) l x.tree x.order) is p.certified.shown)

pub first-none : (us : List SyncUnit) (n : ℕ) (x y : CertView) (m : Shape) → IsProven us n x → IsMerged x.tree y.tree m → x.level ≡ None → open_count m ≡ 0
first-none us n x y m p is none = one-closed x.tree y.tree m is (inl (none-open us n x p none))

pub second-none : (us : List SyncUnit) (n : ℕ) (x y : CertView) (m : Shape) → IsProven us n y → IsMerged x.tree y.tree m → y.level ≡ None → open_count m ≡ 0
second-none us n x y m q is none = one-closed x.tree y.tree m is (inr (none-open us n y q none))

-- a level bounds each legal plan
bounded : LevelsBound → (us : List SyncUnit) (n : ℕ) (c : CertView) (l : ℕ) → IsProven us n c → c.level ≡ Some l → BoundsAll (loads_of us) n (Some l)
bounded law us n c l p is =
    law (line_for us n c) (value_of c.best) l c.tree c.order (AreLoads-loads_of us)
    (subst (λ k. IsOrder k c.order) (sym (length-map us load_of)) p.certified.head.order)
    (subst (λ w. IsShown (line_for us n c) (value_of c.best) w c.tree c.order) is p.certified.shown)

least-at : (loads : List Load) (n l : ℕ) (plan : List Place) (b : ℕ) → BoundsAll loads n (Some l) → IsLegal loads n plan → IsBusiest (plan_items loads plan) n b → l ≤ b
least-at loads n l plan b bounds legal busiest =
    let found = bounds plan legal in
    let is : l ≡ found.0 = some_same found.1 in
    let most = busiest.most found.2 in
    omega (arith, is, found.3, most)

at_most-best : (loads : List Load) (n l : ℕ) (best : Option Best) → BoundsAll loads n (Some l) → IsBestPlan loads n best → IsAtMost (Some l) (value_of best)
at_most-best loads n l None bounds h = tt
at_most-best loads n l (Some x) bounds h = least-at loads n l x.plan.places x.busiest bounds h.0 h.1

-- ---- a level that holds further down

abbrev Fit : Line → Opens
Fit line = λ ps order. IsReady ps order × AreIn line.slots line.loads ps × All (λ u. u < length line.loads) order

module _ (line : Line) (l : ℕ) (v w least : Option ℕ) (within : AreLoads line.loads) (low : IsAtMost least v) (low2 : IsAtMost least w) where
  abbrev Holds : Opens
  Holds = λ ps _. LevelHolds line (Some l) ps

  fit-child : (ps : Prefix) (x : ℕ) (order : List ℕ) (p : Place) → Fit line ps (x ∷ order) → In p (children line ps x) → Fit line (set ps x (Some p)) order
  fit-child ps x order p (ready, all, few) member =
      let one = children-are line ps x p member in
      (ready.1 p, slots-set line.slots line.loads ps x p ready.0 one.1 all, All-tail (λ u. u < length line.loads) x order few)

  below : (u : Option ℕ) (t : Shape) (ps : Prefix) (order : List ℕ) → Fit line ps order → LevelHolds line (Some l) ps → TreeWith Any line u t ps order → TreeWith Holds line u t ps order
  below u t ps order (ready, all, few) holds h = level-below line (Some l) within u t ps order ready all few holds h

  pub holds-first : (a b : Shape) (ps : Prefix) (order : List ℕ) → Fit line ps order → TreeWith Holds line v a ps order → TreeWith Any line w b ps order → TreeWith Holds line least (both a b) ps order
  holds-first a b ps order fit h k =
      tree-both Holds Any Holds (Fit line) line v w least low low2 fit-child
      (λ t qs o is holds has. tree-lower Holds line w least low2 t qs o (below w t qs o is holds has))
      (λ t qs o is has _. tree-lower Holds line v least low t qs o has) a b ps order fit h k

  pub holds-second : (a b : Shape) (ps : Prefix) (order : List ℕ) → Fit line ps order → TreeWith Any line v a ps order → TreeWith Holds line w b ps order → TreeWith Holds line least (both a b) ps order
  holds-second a b ps order fit h k =
      tree-both Any Holds Holds (Fit line) line v w least low low2 fit-child
      (λ t qs o is _ has. tree-lower Holds line w least low2 t qs o has)
      (λ t qs o is has holds. tree-lower Holds line v least low t qs o (below v t qs o is holds has)) a b ps order fit h k

fit-first : (rules : Rules) (us : List SyncUnit) (n : ℕ) (order : List ℕ) → IsOrder (length us) order → Fit (line_by rules (loads_of us) n) (no_places (loads_of us)) order
fit-first rules us n order is =
    let count : length (loads_of us) ≡ length us = length-map us load_of in
    (order_ready (loads_of us) (length us) order (sym count) is, slots-none n (loads_of us), subst (λ k. All (λ u. u < k) order) (sym count) is.below)

greater : (x y l : ℕ) → l ≡ max x y → (l ≡ x) ⊎ (l ≡ y)
greater x y l is = elim (cases_lt x y) [ inl less ↦ inr (omega (arith, is, less)) | inr above ↦ inl (omega (arith, is, above)) ]

-- ---- versions

pub version-rules : (rules : Rules) (level : Option ℕ) → rules_of (version_by rules level) ≡ rules
version-rules slots_alone level = refl
version-rules turned_time None = refl
version-rules turned_time (Some l) = refl
version-rules strong level = refl

version-range : (rules : Rules) (level : Option ℕ) → (1 ≤ version_by rules level) × (version_by rules level ≤ 4)
version-range slots_alone level = (omega arith, omega arith)
version-range turned_time None = (omega arith, omega arith)
version-range turned_time (Some l) = (omega arith, omega arith)
version-range strong level = (omega arith, omega arith)

-- each version is one of four
by-version : (P : ℕ → Type 0) → P 1 → P 2 → P 3 → P 4 → (v : ℕ) → 1 ≤ v → v ≤ 4 → P v
by-version P a b c d zero least most = absurd (omega (arith, least))
by-version P a b c d (suc zero) least most = a
by-version P a b c d (suc (suc zero)) least most = b
by-version P a b c d (suc (suc (suc zero))) least most = c
by-version P a b c d (suc (suc (suc (suc zero)))) least most = d
by-version P a b c d (suc (suc (suc (suc (suc v))))) least most = absurd (omega (arith, most))

no : {A : Type 0} → false ≡ true → A
no e = absurd cc

-- what kinds of leaf there are by the rules of a version
abbrev Kept : ℕ → Type 0
Kept v = (level : Option ℕ) → (nat_le 2 v ≡ true → nat_le 2 (version_by (rules_of v) level) ≡ true) × (nat_le 4 v ≡ true → nat_le 4 (version_by (rules_of v) level) ≡ true)

kept-2 : Kept 2
kept-2 None = (λ _. refl, λ e. no e)
kept-2 (Some l) = (λ _. refl, λ e. no e)

kept-3 : Kept 3
kept-3 None = (λ _. refl, λ e. no e)
kept-3 (Some l) = (λ _. refl, λ e. no e)

kept : (v : ℕ) → 1 ≤ v → v ≤ 4 → Kept v
kept v least most = by-version Kept (λ level. (λ e. no e, λ e. no e)) kept-2 kept-3 (λ level. (λ _. refl, λ _. refl)) v least most

-- a version by the strong rules stays one
pub strong-kept : (v : ℕ) (level : Option ℕ) → 1 ≤ v → v ≤ 4 → nat_lt 3 (version_by (rules_of v) level) ≡ nat_lt 3 v
strong-kept v level least most = by-version (λ w. nat_lt 3 (version_by (rules_of w) level) ≡ nat_lt 3 w) refl (turned level) (turned level) refl v least most
  where
    turned : (level : Option ℕ) → nat_lt 3 (version_by turned_time level) ≡ false
    turned None = refl
    turned (Some l) = refl

-- versions with a level are later ones
late : (v : ℕ) → 1 ≤ v → v ≤ 4 → 3 ≤ v → rules_of v ≡ slots_alone → ⊥
late v least most from = by-version (λ w. 3 ≤ w → rules_of w ≡ slots_alone → ⊥) (λ l _. omega (arith, l)) (λ l _. omega (arith, l)) (λ _ e. turned_alone e) (λ _ e. strong_alone e) v least most from
  where
    turned_alone : turned_time ≡ slots_alone → ⊥
    turned_alone e = absurd cc

    strong_alone : strong ≡ slots_alone → ⊥
    strong_alone e = absurd cc

line-none : (rules : Rules) → IsLevelLine (version_by rules None) None
line-none slots_alone = inl (omega arith)
line-none turned_time = inl (omega arith)
line-none strong = inr (omega arith)

line-some : (rules : Rules) (l : ℕ) → (rules ≡ slots_alone → ⊥) → l ≤ 12304 → IsLevelLine (version_by rules (Some l)) (Some l)
line-some slots_alone l later low = absurd (later refl)
line-some turned_time l later low = (omega arith, low)
line-some strong l later low = (omega arith, low)

-- ---- one certificate of these parts

pub made-proven : (us : List SyncUnit) (n : ℕ) (x : CertView) (version : ℕ) (best : Option Best) (level : Option ℕ) (tree : Shape) → IsProven us n x → version ≡ version_by (rules_of x.version) level → IsBestOrNone (length x.units) best → IsBestPlan (loads_of us) n best
    → IsLevelLine (version_by (rules_of x.version) level) level → IsLevelIn level (value_of best) → HasLevels (kinds_in (version_by (rules_of x.version) level) level) 49 tree → IsShown (line_for us n x) (value_of best) level tree x.order
    → IsProven us n (record { version = version; slots = n; units = x.units; order = x.order; best = best; level = level; tree = tree })
made-proven us n x version best level tree p is best_formed best_is level_is level_in levels shown =
    let range = version-range (rules_of x.version) level in
    subst (λ v. IsProven us n (record { version = v; slots = n; units = x.units; order = x.order; best = best; level = level; tree = tree })) (sym is)
    (record {
      formed = record {
        least_version = range.0;
        most_version = range.1;
        least_slots = subst (λ k. 1 ≤ k) p.certified.head.same.slots p.formed.least_slots;
        most_slots = subst (λ k. k ≤ 8) p.certified.head.same.slots p.formed.most_slots;
        least_units = p.formed.least_units;
        most_units = p.formed.most_units;
        units = p.formed.units;
        order_count = p.formed.order_count;
        order = p.formed.order;
        best = best_formed;
        level = level_is;
        tree = levels;
      };
      certified = record {
        head = record { same = record { slots = refl; lines = p.certified.head.same.lines }; order = p.certified.head.order; best = best_is; level = level_in };
        shown = subst (λ r. IsShown (line_by r (loads_of us) n) (value_of best) level tree x.order) (sym (version-rules (rules_of x.version) level)) shown;
      };
    })

-- its tree has the levels of its version
tree-kinds : (us : List SyncUnit) (n : ℕ) (x : CertView) (level : Option ℕ) (k : Kinds) → IsProven us n x → k.weights ≡ nat_le 2 (version_by (rules_of x.version) level) → k.rooms ≡ nat_le 4 (version_by (rules_of x.version) level) → (0 < open_count x.tree → k.left_open ≡ true) → HasLevels k 49 x.tree
tree-kinds us n x level k p weights rooms opens =
    let all = kept x.version p.formed.least_version p.formed.most_version level in
    levels-kinds (kinds_in x.version x.level) k (λ e. weights ∙ all.0 e) (λ e. rooms ∙ all.1 e) 49 x.tree opens p.formed.tree

-- ---- a merge

module _ (law : LevelsBound) (us : List SyncUnit) (n : ℕ) (x y : CertView) (p : IsProven us n x) (q : IsProven us n y) (fit : FitTogether x y) (best : Option Best) (b : IsLesserBest x.best y.best best) where
  abbrev line : Line
  line = line_for us n x

  lines-same : y.units ≡ x.units
  lines-same = q.certified.head.same.lines ∙ sym p.certified.head.same.lines

  merged-best : IsBestOrNone (length x.units) best
  merged-best = elim b.one [
    | inl e ↦ subst (IsBestOrNone (length x.units)) (sym e) p.formed.best
    | inr e ↦ subst (IsBestOrNone (length x.units)) (sym e) (subst (λ us. IsBestOrNone (length us) y.best) lines-same q.formed.best)
  ]

  merged-plan : IsBestPlan (loads_of us) n best
  merged-plan = elim b.one [
    | inl e ↦ subst (IsBestPlan (loads_of us) n) (sym e) p.certified.head.best
    | inr e ↦ subst (IsBestPlan (loads_of us) n) (sym e) q.certified.head.best
  ]

  one : TreeWith Any line (value_of x.best) x.tree (no_places (loads_of us)) x.order
  one = any-of (Opened line x.level) line (value_of x.best) x.tree (no_places (loads_of us)) x.order (first-tree us n x p)

  two : TreeWith Any line (value_of y.best) y.tree (no_places (loads_of us)) x.order
  two = any-of (Opened line y.level) line (value_of y.best) y.tree (no_places (loads_of us)) x.order (second-tree us n x y q fit)

  -- its levels, with leaves that may be open where one is
  merged-levels : (level : Option ℕ) (m : Shape) → IsMerged x.tree y.tree m → (0 < open_count m → is_some level ≡ true) → HasLevels (kinds_in (version_by (rules_of x.version) level) level) 49 m
  merged-levels level m is opens =
      let version = version_by (rules_of x.version) level in
      let k : Kinds = record { weights = nat_le 2 version; left_open = true; rooms = nat_le 4 version } in
      let other = ap (λ r. version_by r level) fit.rules in
      let all = levels-both k 49 x.tree y.tree (tree-kinds us n x level k p refl refl (λ _. refl)) (tree-kinds us n y level k q (ap (nat_le 2) other) (ap (nat_le 4) other) (λ _. refl)) in
      levels-kinds k (kinds_in version level) (λ e. e) (λ e. e) 49 m opens (subst (HasLevels k 49) (sym (merged-is x.tree y.tree m is)) all)

  merged-whole : (m : Shape) → IsMerged x.tree y.tree m → open_count m ≡ 0 → IsTree line (value_of best) m (no_places (loads_of us)) x.order
  merged-whole m is none =
      let all = any-both line (value_of x.best) (value_of y.best) (value_of best) x.tree y.tree (no_places (loads_of us)) x.order b.first b.second one two in
      tree-closed Any (λ _ _. ⊥) line (value_of best) m (no_places (loads_of us)) x.order none (subst (λ t. TreeWith Any line (value_of best) t (no_places (loads_of us)) x.order) (sym (merged-is x.tree y.tree m is)) all)

  -- a level of either holds at what both left open
  holds-of-first : (l : ℕ) (m : Shape) → IsMerged x.tree y.tree m → x.level ≡ Some l → TreeWith (λ ps _. LevelHolds line (Some l) ps) line (value_of best) m (no_places (loads_of us)) x.order
  holds-of-first l m is at =
      let own = subst (λ w. TreeWith (Opened line w) line (value_of x.best) x.tree (no_places (loads_of us)) x.order) at (first-tree us n x p) in
      subst (λ t. TreeWith (λ ps _. LevelHolds line (Some l) ps) line (value_of best) t (no_places (loads_of us)) x.order) (sym (merged-is x.tree y.tree m is))
      (holds-first line l (value_of x.best) (value_of y.best) (value_of best) (AreLoads-loads_of us) b.first b.second x.tree y.tree (no_places (loads_of us)) x.order (fit-first (rules_of x.version) us n x.order p.certified.head.order) own two)

  holds-of-second : (l : ℕ) (m : Shape) → IsMerged x.tree y.tree m → y.level ≡ Some l → TreeWith (λ ps _. LevelHolds line (Some l) ps) line (value_of best) m (no_places (loads_of us)) x.order
  holds-of-second l m is at =
      let own = subst (λ w. TreeWith (Opened line w) line (value_of y.best) y.tree (no_places (loads_of us)) x.order) at (second-tree us n x y q fit) in
      subst (λ t. TreeWith (λ ps _. LevelHolds line (Some l) ps) line (value_of best) t (no_places (loads_of us)) x.order) (sym (merged-is x.tree y.tree m is))
      (holds-second line l (value_of x.best) (value_of y.best) (value_of best) (AreLoads-loads_of us) b.first b.second x.tree y.tree (no_places (loads_of us)) x.order (fit-first (rules_of x.version) us n x.order p.certified.head.order) one own)

  level-range : (l k : ℕ) → IsLevelLine k (Some l) → (3 ≤ k) × (l ≤ 12304)
  level-range l k h = h

  pub merged-proven : (m : Shape) (level : Option ℕ) (version : ℕ) → IsMerged x.tree y.tree m → IsLevelOfBoth x.level y.level m level → version ≡ version_by (rules_of x.version) level
      → IsProven us n (record { version = version; slots = n; units = x.units; order = x.order; best = best; level = level; tree = m })
  merged-proven m None version is none made =
      made-proven us n x version best None m p made merged-best merged-plan (line-none (rules_of x.version)) tt (merged-levels None m is (λ some. absurd (omega (arith, some, none)))) (merged-whole m is none)
  merged-proven m (Some l) version is (some, lx, ly, at, at2, most) made =
      let own = level-range lx x.version (subst (IsLevelLine x.version) at p.formed.level) in
      let own2 = level-range ly y.version (subst (IsLevelLine y.version) at2 q.formed.level) in
      let later = late x.version p.formed.least_version p.formed.most_version own.0 in
      let shown : IsShown line (value_of best) (Some l) m x.order =
      elim (greater lx ly l most) [
        | inl e ↦ (subst (λ w. IsAtMost (Some w) (value_of best)) (sym e) (at_most-best (loads_of us) n lx best (bounded law us n x lx p at) merged-plan), holds-of-first l m is (at ∙ ap Some (sym e)))
        | inr e ↦ (subst (λ w. IsAtMost (Some w) (value_of best)) (sym e) (at_most-best (loads_of us) n ly best (bounded law us n y ly q at2) merged-plan), holds-of-second l m is (at2 ∙ ap Some (sym e)))
      ] in
      made-proven us n x version best (Some l) m p made merged-best merged-plan (line-some (rules_of x.version) l later (omega (arith, own.1, own2.1, most))) shown.0 (merged-levels (Some l) m is (λ _. refl)) shown

-- ---- a certificate without its level

pub settled-proven : (us : List SyncUnit) (n : ℕ) (x : CertView) (version : ℕ) → IsProven us n x → open_count x.tree ≡ 0 → version ≡ version_by (rules_of x.version) None
    → IsProven us n (record { version = version; slots = n; units = x.units; order = x.order; best = x.best; level = None; tree = x.tree })
settled-proven us n x version p none made =
    made-proven us n x version x.best None x.tree p made p.formed.best p.certified.head.best (line-none (rules_of x.version)) tt
    (tree-kinds us n x None (kinds_in (version_by (rules_of x.version) None) None) p refl refl (λ some. absurd (omega (arith, some, none))))
    (tree-closed (Opened (line_for us n x) x.level) (λ _ _. ⊥) (line_for us n x) (value_of x.best) x.tree (no_places (loads_of us)) x.order none (first-tree us n x p))
