-- The certificate of a search has a text, and the checker says yes to it.
use Rattle.std.proofs.Common.{◌≡◌, ◌⊎◌, ℕ, ◌+◌, ◌<◌, ◌≤◌, Bool, true, false, All, List, [], ◌∷◌, length, Option, Some, None, Result, Ok, Err, refl, ap, sym, subst, ◌∙◌, arith, inl, inr}
use Rattle.std.proofs.lemmas.List.{length-map}
use Rattle.std.proofs.lemmas.List.Sums.{sum_by-cons}
use Rattle.std.proofs.lemmas.List.Elements.{All-nil, All-cons, All-head, All-tail}
use Rattle.ec_units.specs.declared.slave.Slave.{Slave}
use Rattle.ec_units.specs.declared.slave.Place.{Place}
use Rattle.ec_units.specs.declared.unit.Unit.{Unit as SyncUnit}
use Rattle.ec_units.specs.declared.unit.Load.{Load}
use Rattle.ec_units.specs.Bytes.{bytes_of_slaves}
use Rattle.ec_units.specs.Load.{load_of, loads_of}
use Rattle.ec_loads.specs.declared.item.Item.{Item}
use Rattle.ec_loads.specs.Cost.{item, plan_items}
use Rattle.ec_loads.specs.Held.{AreLoads, no_places}
use Rattle.ec_loads.specs.Line.{Rules, IsStrong, line_by}
use Rattle.ec_loads.specs.Shape.{Shape}
use Rattle.ec_loads.specs.Search.{BoundsAll, IsTree, IsPartialTree, LevelHolds, ShowsLevel}
use Rattle.ec_loads.proofs.ItemLemmas.{AreLoads-loads_of}
use Rattle.ec_symmetry.specs.Orders.{IsOrder}
use Rattle.ec_symmetry.proofs.CountLemmas.{AreLeft, AreLeft-none}
use Rattle.ec_cert.specs.declared.cert.Best.{Best}
use Rattle.ec_cert.specs.Shapes.{CertView}
use Rattle.ec_cert.specs.LeafKinds.{kinds_in}
use Rattle.ec_cert.specs.Versions.{rules_of}
use Rattle.ec_cert.specs.WellFormed.{HasLevels, IsUnitLine, IsPlaceLine, IsBestOrNone, IsLevelLine, IsWellFormed}
use Rattle.ec_tree.specs.Trees.{TreesBound}
use Rattle.ec_cert.specs.IsBestPlan.{value_of, IsBestPlan}
use Rattle.ec_checker.specs.Certified.{line_of, lines_of, IsCertified, IsAnswer, verdict_of}
use Rattle.ec_checker.specs.Laws.{FaultsRefute}
use Rattle.ec_checker.specs.Levels.{IsGreatestLevel}
use Rattle.ec_checker.specs.declared.fault.CheckFault.{CheckFault}
use Rattle.ec_checker.specs.declared.fault.CheckFault.TheVariants as fault
use Rattle.ec_checker.specs.declared.fault.Verdict.{Verdict}
use Rattle.ec_checker.specs.declared.fault.Verdict.TheVariants as verdict
use Rattle.ec_outcome.specs.Searched.{searched_by}
use Rattle.ec_workers.specs.Outcomes.{Shows, proof_version, partial_version, cert_for, partial_for, IsFound}
use Rattle.ec_workers.proofs.RangeLemmas.{busiest-range}
use Rattle.ec_workers.proofs.LevelLemmas.{tree-levels}

abbrev slave_bytes : Slave → ℕ
slave_bytes s = s.out_bytes + s.in_bytes

slaves-least : (ss : List Slave) → 1 ≤ length ss → 1 ≤ bytes_of_slaves ss
slaves-least [] some = absurd (omega arith)
slaves-least (s ∷ ss) some = let one = s.carries in omega (arith, one, sum_by-cons slave_bytes s ss)

line-formed : (u : SyncUnit) → IsUnitLine (line_of u)
line-formed u = record {
  name = u.named;
  least_bytes = slaves-least u.slaves u.slave_count.0;
  most_bytes = u.size;
  least_period = u.period_range.0;
  most_period = u.period_range.1;
}

lines-formed : (us : List SyncUnit) → All IsUnitLine (lines_of us)
lines-formed [] = All-nil _
lines-formed (u ∷ us) = All-cons IsUnitLine (line_of u) (lines_of us) (line-formed u) (lines-formed us)

places-formed : (loads : List Load) (n : ℕ) (plan : List Place) → n ≤ 8 → AreLoads loads → length plan ≡ length loads → All (λ x. x.phase < x.period) (plan_items loads plan) → All (λ x. x.slot < n) (plan_items loads plan) → All IsPlaceLine plan
places-formed [] n [] few within same phases slots = All-nil _
places-formed [] n (p ∷ ps) few within same phases slots = absurd (omega arith)
places-formed (l ∷ ls) n [] few within same phases slots = All-nil _
places-formed (l ∷ ls) n (p ∷ ps) few within same phases slots =
    let phase : p.phase < l.period = All-head (λ (x : Item). x.phase < x.period) (item l p) (plan_items ls ps) phases in
    let slot : p.slot < n = All-head (λ (x : Item). x.slot < n) (item l p) (plan_items ls ps) slots in
    let is = All-head (λ (x : Load). (1 ≤ x.period) × (x.period ≤ 60) × (x.bytes ≤ 1486)) l ls within in
    let period : l.period ≤ 60 = is.1 in
    All-cons IsPlaceLine p ps (omega (arith, phase, period), omega (arith, slot, few))
    (places-formed ls n ps few (All-tail (λ (x : Load). (1 ≤ x.period) × (x.period ≤ 60) × (x.bytes ≤ 1486)) l ls within) (omega arith)
    (All-tail (λ (x : Item). x.phase < x.period) (item l p) (plan_items ls ps) phases)
    (All-tail (λ (x : Item). x.slot < n) (item l p) (plan_items ls ps) slots))

best-formed : (us : List SyncUnit) (n k : ℕ) (best : Option Best) → k ≡ length us → 1 ≤ length us → n ≤ 8 → IsBestPlan (loads_of us) n best → IsBestOrNone k best
best-formed us n k None is some few h = tt
best-formed us n k (Some b) is some few h =
    let count : length (loads_of us) ≡ length us = length-map us load_of in
    let range = busiest-range (loads_of us) n b.busiest b.plan.places (omega (arith, count, some)) few h.0 h.1 in
    record {
      least = range.0;
      most = range.1;
      count = h.0.whole ∙ count ∙ sym is;
      places = places-formed (loads_of us) n b.plan.places few (AreLoads-loads_of us) h.0.whole h.0.phases h.0.slots;
    }

-- what is known of the units
pub record AreFew (us : List SyncUnit) (n : ℕ) : Type 0 where
  pub least_slots : 1 ≤ n
  pub most_slots : n ≤ 8
  pub least_units : 1 ≤ length us
  pub most_units : length us ≤ 48

-- a version's rules are those of the search that writes it
proof-rules : (strong : Bool) → rules_of (proof_version strong) ≡ searched_by strong
proof-rules false = refl
proof-rules true = refl

partial-rules : (strong : Bool) → rules_of (partial_version strong) ≡ searched_by strong
partial-rules false = refl
partial-rules true = refl

-- the strong rules are those of version 4, whose certificates have all kinds of leaf
proof-rooms : (strong : Bool) → IsStrong (searched_by strong) → (kinds_in (proof_version strong) None).rooms ≡ true
proof-rooms false h = absurd h
proof-rooms true h = refl

partial-rooms : (strong : Bool) (level : ℕ) → IsStrong (searched_by strong) → (kinds_in (partial_version strong) (Some level)).rooms ≡ true
partial-rooms false level h = absurd h
partial-rooms true level h = refl

proof-weights : (strong : Bool) → (kinds_in (proof_version strong) None).weights ≡ true
proof-weights false = refl
proof-weights true = refl

partial-weights : (strong : Bool) (level : ℕ) → (kinds_in (partial_version strong) (Some level)).weights ≡ true
partial-weights false level = refl
partial-weights true level = refl

partial-open : (strong : Bool) (level : ℕ) → (kinds_in (partial_version strong) (Some level)).left_open ≡ true
partial-open false level = refl
partial-open true level = refl

proof-range : (strong : Bool) → (1 ≤ proof_version strong) × (proof_version strong ≤ 4) × IsLevelLine (proof_version strong) None
proof-range false = (omega arith, omega arith, inl (omega arith))
proof-range true = (omega arith, omega arith, inr (omega arith))

partial-range : (strong : Bool) → (3 ≤ partial_version strong) × (partial_version strong ≤ 4)
partial-range false = (omega arith, omega arith)
partial-range true = (omega arith, omega arith)

pub certified : (us : List SyncUnit) (n : ℕ) (strong : Bool) (order : List ℕ) (best : Option Best) (tree : Shape) → IsFound us n strong order best tree → IsCertified us n (cert_for us n strong order best tree)
certified us n strong order best tree found = record {
  head = record { same = record { slots = refl; lines = refl }; order = found.order_is; best = found.best_is; level = tt };
  shown = subst (λ r. IsTree (line_by r (loads_of us) n) (value_of best) tree (no_places (loads_of us)) order) (sym (proof-rules strong)) found.tree_is;
}

-- the certificate of these parts, of any version with such a level and such a tree
abbrev view_of : List SyncUnit → ℕ → ℕ → List ℕ → Option Best → Option ℕ → Shape → CertView
view_of us n version order best level tree = record { version = version; slots = n; units = lines_of us; order = order; best = best; level = level; tree = tree }

formed-by : (us : List SyncUnit) (n version : ℕ) (order : List ℕ) (best : Option Best) (level : Option ℕ) (tree : Shape) → AreFew us n → 1 ≤ version → version ≤ 4 → IsOrder (length us) order → IsBestPlan (loads_of us) n best → IsLevelLine version level
    → (AreLoads (loads_of us) → All (λ u. u < length (loads_of us)) order → length order ≤ 48 → HasLevels (kinds_in version level) 49 tree) → IsWellFormed (view_of us n version order best level tree)
formed-by us n version order best level tree few least most order_is best_is level_is levels =
    let count : length (lines_of us) ≡ length us = length-map us line_of in
    let loads : length (loads_of us) ≡ length us = length-map us load_of in
    record {
      least_version = least;
      most_version = most;
      least_slots = few.least_slots;
      most_slots = few.most_slots;
      least_units = omega (arith, count, few.least_units);
      most_units = omega (arith, count, few.most_units);
      units = lines-formed us;
      order_count = order_is.count ∙ sym count;
      order = subst (λ k. All (λ u. u < k) order) (sym count) order_is.below;
      best = best-formed us n (length (lines_of us)) best count few.least_units few.most_slots best_is;
      level = level_is;
      tree = levels (AreLoads-loads_of us) (subst (λ k. All (λ u. u < k) order) (sym loads) order_is.below) (omega (arith, order_is.count, few.most_units));
    }

-- at first each unit is left
left-first : (rules : Rules) (us : List SyncUnit) (n : ℕ) (order : List ℕ) → IsOrder (length us) order → AreLeft (line_by rules (loads_of us) n) (no_places (loads_of us)) order
left-first rules us n order is = AreLeft-none (line_by rules (loads_of us) n) order (subst (λ k. IsOrder k order) (sym (length-map us load_of)) is)

pub formed : (us : List SyncUnit) (n : ℕ) (strong : Bool) (order : List ℕ) (best : Option Best) (tree : Shape) → AreFew us n → IsFound us n strong order best tree → IsWellFormed (cert_for us n strong order best tree)
formed us n strong order best tree few found =
    let range = proof-range strong in
    formed-by us n (proof_version strong) order best None tree few range.0 range.1 found.order_is found.best_is range.2 (λ within below deep.
    tree-levels (λ _ _. ⊥) (kinds_in (proof_version strong) None) (proof-weights strong) (λ _ _ no. absurd no) (line_by (searched_by strong) (loads_of us) n) (proof-rooms strong) (value_of best) tree (no_places (loads_of us)) order 48 within few.least_slots few.most_slots below (left-first (searched_by strong) us n order found.order_is) deep found.short found.tree_is)

pub checked : FaultsRefute → (us : List SyncUnit) (n : ℕ) (c : CertView) → IsCertified us n c → (r : Result Verdict CheckFault) → IsAnswer us n c r → (r ≡ Ok (verdict_of c.best c.level)) ⊎ (r ≡ Err fault.OutOfMemory)
checked refute us n c right (Ok w) a = inl (ap Ok a.1)
checked refute us n c right (Err fault.OutOfMemory) a = inr refl
checked refute us n c right (Err fault.OtherUnits) a = absurd (refute us n c fault.OtherUnits (λ e. absurd cc) a right)
checked refute us n c right (Err fault.Order) a = absurd (refute us n c fault.Order (λ e. absurd cc) a right)
checked refute us n c right (Err (fault.Plan i)) a = absurd (refute us n c (fault.Plan i) (λ e. absurd cc) a right)
checked refute us n c right (Err (fault.Value s f)) a = absurd (refute us n c (fault.Value s f) (λ e. absurd cc) a right)
checked refute us n c right (Err (fault.Children k w g)) a = absurd (refute us n c (fault.Children k w g) (λ e. absurd cc) a right)
checked refute us n c right (Err (fault.Leaf k)) a = absurd (refute us n c (fault.Leaf k) (λ e. absurd cc) a right)
checked refute us n c right (Err (fault.Depth k)) a = absurd (refute us n c (fault.Depth k) (λ e. absurd cc) a right)
checked refute us n c right (Err (fault.Level l v)) a = absurd (refute us n c (fault.Level l v) (λ e. absurd cc) a right)

pub shows : FaultsRefute → (us : List SyncUnit) (n : ℕ) (strong : Bool) (order : List ℕ) (best : Option Best) (tree : Shape) → AreFew us n → IsFound us n strong order best tree → Shows us n (cert_for us n strong order best tree) (verdict_of best None)
shows refute us n strong order best tree few found = record {
  formed = formed us n strong order best tree few found;
  certified = certified us n strong order best tree found;
  checked = checked refute us n (cert_for us n strong order best tree) (certified us n strong order best tree found);
}

-- the certificate of a search that ended without a proof, with the level that its tree shows
pub partial-shows : FaultsRefute → (us : List SyncUnit) (n : ℕ) (strong : Bool) (order : List ℕ) (best : Option Best) (tree : Shape) (level : ℕ) → AreFew us n → IsOrder (length us) order → IsBestPlan (loads_of us) n best
    → IsPartialTree (line_by (searched_by strong) (loads_of us) n) (value_of best) tree (no_places (loads_of us)) order → IsGreatestLevel (line_by (searched_by strong) (loads_of us) n) (value_of best) tree order level → Shows us n (partial_for us n strong order best level tree) (verdict.AtLeast level)
partial-shows refute us n strong order best tree level few order_is best_is partial is =
    let line = line_by (searched_by strong) (loads_of us) n in
    let range = partial-range strong in
    let right : IsCertified us n (partial_for us n strong order best level tree) = record {
      head = record { same = record { slots = refl; lines = refl }; order = order_is; best = best_is; level = is.shows.0 };
      shown = subst (λ r. ShowsLevel (line_by r (loads_of us) n) (value_of best) level tree (no_places (loads_of us)) order) (sym (partial-rules strong)) is.shows;
    } in
    record {
      formed = formed-by us n (partial_version strong) order best (Some level) tree few (omega (arith, range.0)) range.1 order_is best_is (range.0, is.range) (λ within below deep.
          tree-levels (λ qs _. LevelHolds line (Some level) qs) (kinds_in (partial_version strong) (Some level)) (partial-weights strong level) (λ _ _ _. partial-open strong level) line (partial-rooms strong level) (value_of best) tree (no_places (loads_of us)) order 48 within few.least_slots few.most_slots below (left-first (searched_by strong) us n order order_is) deep partial.1 is.shows.1);
      certified = right;
      checked = checked refute us n (partial_for us n strong order best level tree) right;
    }

pub bounds : TreesBound → (us : List SyncUnit) (n : ℕ) (strong : Bool) (order : List ℕ) (best : Option Best) (tree : Shape) → IsFound us n strong order best tree → BoundsAll (loads_of us) n (value_of best)
bounds law us n strong order best tree found =
    law (line_by (searched_by strong) (loads_of us) n) (value_of best) tree order (AreLoads-loads_of us)
    (subst (λ k. IsOrder k order) (sym (length-map us load_of)) found.order_is) found.tree_is
