-- What a proven certificate says as the outcome of a search.
use Rattle.std.proofs.Common.{◌≡◌, ◌⊎◌, ℕ, ◌<◌, nat_lt, false, List, Option, Some, None, Result, Ok, Err, IfOk, refl, sym, ◌∙◌, subst, arith}
use Rattle.std.proofs.lemmas.List.{length-map}
use Rattle.std.proofs.lemmas.Result.{IfOk-weaker}
use Rattle.std.specs.declared.alloc.AllocError.{AllocError}
use Rattle.ec_units.specs.declared.slave.Place.{Place}
use Rattle.ec_units.specs.declared.unit.Unit.{Unit as SyncUnit}
use Rattle.ec_units.specs.Load.{load_of, loads_of}
use Rattle.ec_loads.specs.Line.{line_by}
use Rattle.ec_loads.specs.Search.{BoundsAll, HasNoPlan, open_count}
use Rattle.ec_loads.proofs.ItemLemmas.{AreLoads-loads_of}
use Rattle.ec_symmetry.specs.Orders.{IsOrder}
use Rattle.ec_tree.specs.Trees.{TreesBound, LevelsBound}
use Rattle.ec_cert.specs.declared.cert.Best.{Best}
use Rattle.ec_cert.specs.IsBestPlan.{value_of, IsBestPlan}
use Rattle.ec_cert.specs.Shapes.{CertView}
use Rattle.ec_cert.specs.Versions.{rules_of}
use Rattle.ec_checker.specs.Certified.{IsShown, IsAnswer, verdict_of}
use Rattle.ec_checker.specs.Laws.{FaultsRefute}
use Rattle.ec_checker.specs.declared.fault.CheckFault.{CheckFault}
use Rattle.ec_checker.specs.declared.fault.CheckFault.TheVariants as fault
use Rattle.ec_checker.specs.declared.fault.Verdict.{Verdict}
use Rattle.ec_checker.specs.declared.fault.Verdict.TheVariants as verdict
use Rattle.ec_outcome.specs.declared.search.Cut.TheVariants as cut
use Rattle.ec_outcome.specs.declared.search.Outcome.{Outcome}
use Rattle.ec_outcome.specs.declared.search.Outcome.TheVariants as outcome
use Rattle.ec_book.specs.Finishing.{GrowsFrom}
use Rattle.ec_workers.specs.Answers.{Asked, asked_for, HasLevelFrom, HasOrder, HasRules, IsOutcome, IsUnproved, is_strong, tree_in}
use Rattle.ec_workers.specs.Outcomes.{IsOptimal, IsWithoutPlan, IsPartialCert, Shows}
use Rattle.ec_workers.proofs.GrowLemmas.{stays}
use Rattle.ec_workers.proofs.ResumeLemmas.{goes-on, level-rises}
use Rattle.ec_workers.proofs.ShowLemmas.{checked}
use Rattle.ec_cert_merge.specs.Certs.{IsProven}
use Rattle.ec_cert_merge.proofs.CertLemmas.{none-open}

abbrev plain_asked : Asked
plain_asked = asked_for false 1 1

-- the checker says yes
shows : FaultsRefute → (us : List SyncUnit) (n : ℕ) (c : CertView) (v : Verdict) → IsProven us n c → verdict_of c.best c.level ≡ v → Shows us n c v
shows refute us n c v p is = record {
  formed = p.formed;
  certified = p.certified;
  checked = subst (λ w. (r : Result Verdict CheckFault) → IsAnswer us n c r → (r ≡ Ok w) ⊎ (r ≡ Err fault.OutOfMemory)) is (checked refute us n c p.certified);
}

bounds : TreesBound → (us : List SyncUnit) (n : ℕ) (c : CertView) → IsProven us n c → c.level ≡ None → BoundsAll (loads_of us) n (value_of c.best)
bounds law us n c p none =
    let line = line_by (rules_of c.version) (loads_of us) n in
    law line (value_of c.best) c.tree c.order (AreLoads-loads_of us) (subst (λ k. IsOrder k c.order) (sym (length-map us load_of)) p.certified.head.order)
    (subst (λ l. IsShown line (value_of c.best) l c.tree c.order) none p.certified.shown)

none_some : {b : ℕ} → None ≡ Some b → ⊥
none_some e = absurd cc

no_legal : (us : List SyncUnit) (n : ℕ) → BoundsAll (loads_of us) n None → HasNoPlan (loads_of us) n
no_legal us n all plan legal = let has = all plan legal in absurd (none_some has.1)

pub without-plan : FaultsRefute → TreesBound → (us : List SyncUnit) (n : ℕ) (c : CertView) → IsProven us n c → c.level ≡ None → c.best ≡ None → IsWithoutPlan us n c
without-plan refute law us n c p none is = record {
  none = no_legal us n (subst (λ b. BoundsAll (loads_of us) n (value_of b)) is (bounds law us n c p none));
  held = is;
  shows = shows refute us n c verdict.NoPlan p (λ j. verdict_of (is j) (none j));
}

pub optimal-plan : FaultsRefute → TreesBound → (us : List SyncUnit) (n : ℕ) (c : CertView) (b : Best) (places : List Place) → IsProven us n c → c.level ≡ None → c.best ≡ Some b → places ≡ b.plan.places → IsOptimal us n places b.busiest c
optimal-plan refute law us n c b places p none is copied =
    let right : IsBestPlan (loads_of us) n (Some b) = subst (IsBestPlan (loads_of us) n) is p.certified.head.best in
    subst (λ w. IsOptimal us n w b.busiest c) (sym copied)
    (record {
      legal = right.0;
      busiest = right.1;
      bounds = subst (λ w. BoundsAll (loads_of us) n (value_of w)) is (bounds law us n c p none);
      held = (b, is, refl, refl);
      shows = shows refute us n c (verdict.Least b.busiest) p (λ j. verdict_of (is j) (none j));
    })

-- where a leaf is open it has a level, and a search can go on with it
has-level : (us : List SyncUnit) (n : ℕ) (c : CertView) → IsProven us n c → 0 < open_count c.tree → (l : Option ℕ) → c.level ≡ l → (k : ℕ) × (c.level ≡ Some k)
has-level us n c p some None is = let none = none-open us n c p is in absurd (omega (arith, some, none))
has-level us n c p some (Some k) is = (k, is)

-- a search can go on with it
with-level : (us : List SyncUnit) (n : ℕ) (c : CertView) (l : ℕ) → IsProven us n c → c.level ≡ Some l → IsPartialCert us n c
with-level us n c l p is = record { formed = p.formed; certified = p.certified; level = (l, is) }

grown : (c : CertView) (o : Outcome) → tree_in o ≡ c.tree → GrowsFrom c.tree (tree_in o)
grown c o is = subst (λ t. GrowsFrom t (tree_in o)) is (stays 1 o).grows

-- the outcome shows at least its level
pub level-kept : LevelsBound → (us : List SyncUnit) (n : ℕ) (c : CertView) (asked : Asked) (o : Outcome) (l : ℕ) → IsProven us n c → IsOutcome us n asked o → HasOrder c.order o → HasRules (is_strong c) o → tree_in o ≡ c.tree → c.level ≡ Some l → HasLevelFrom us n l o
level-kept law us n c asked (outcome.Optimal plan b cert) l p found order_is by tree is =
    level-rises law us n (asked_for (is_strong c) 1 1) c l (outcome.Optimal plan b cert) (with-level us n c l p is) is refl found order_is (grown c (outcome.Optimal plan b cert) tree)
level-kept law us n c asked (outcome.NoPlan cert) l p found order_is by tree is = tt
level-kept law us n c asked (outcome.Unproved best order tree by why) l p found order_is rules_are tree_is is =
    level-rises law us n asked c l (outcome.Unproved best order tree by why) (with-level us n c l p is) is (sym found.rules_is ∙ rules_are) found order_is (grown c (outcome.Unproved best order tree by why) tree_is)

pub levels-kept : LevelsBound → (us : List SyncUnit) (n : ℕ) (c : CertView) (r : Result Outcome AllocError) → IsProven us n c → IfOk r (λ o. (asked : Asked) → IsOutcome us n asked o) → IfOk r (HasOrder c.order) → IfOk r (HasRules (is_strong c)) → IfOk r (λ o. tree_in o ≡ c.tree)
    → IfOk r (λ o. (l : ℕ) → c.level ≡ Some l → HasLevelFrom us n l o)
levels-kept law us n c (Ok o) p all order_is by tree = λ l is. level-kept law us n c plain_asked o l p (all plain_asked) order_is by tree is
levels-kept law us n c (Err e) p all order_is by tree = tt

-- as one that left leaves to other parts
pub left-to-parts : (us : List SyncUnit) (n : ℕ) (c : CertView) → IsProven us n c → 0 < open_count c.tree → (asked : Asked) × IsUnproved us n asked c.best c.order c.tree (nat_lt 3 c.version) cut.Parts
left-to-parts us n c p some =
    let partial : IsPartialCert us n c = record { formed = p.formed; certified = p.certified; level = has-level us n c p some c.level refl } in (
      record { strong = is_strong c; workers = 1; nodes = 1; given = c.tree; parts = 2 },
      record {
        rules_is = refl;
        order_is = p.certified.head.order;
        best_is = p.certified.head.best;
        tree_is = goes-on us n c partial;
        cut_is = (omega arith, λ spent. omega (arith, spent), some);
      },
    )

-- what is so whatever was asked
pub for-any : (us : List SyncUnit) (n : ℕ) (r : Result Outcome AllocError) → IfOk r (λ o. (asked : Asked) → IsOutcome us n asked o) → IfOk r (λ o. (asked : Asked) × IsOutcome us n asked o)
for-any us n r h = IfOk-weaker r (λ o. (asked : Asked) → IsOutcome us n asked o) (λ o. (asked : Asked) × IsOutcome us n asked o) (λ o all. (plain_asked, all plain_asked)) h
