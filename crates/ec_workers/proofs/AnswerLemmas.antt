-- What a finished search says.
-- `without` and `optimal` have an equation premise for each part, so that the answers only pass names. All that an outcome
-- says comes from `Book::finish`.
use Rattle.std.proofs.Common.{◌≡◌, ◌≢◌, Bool, ℕ, ◌+◌, ◌<◌, ◌≤◌, List, length, Option, Some, None, Result, Ok, Err, IfOk, IsTrue, refl, ap, sym, subst, arith, ◌∙◌}
use Rattle.std.proofs.lemmas.List.{length-map}
use Rattle.ec_units.specs.declared.slave.Place.{Place}
use Rattle.ec_units.specs.declared.unit.Unit.{Unit as SyncUnit}
use Rattle.ec_units.specs.declared.units.Units.{Units}
use Rattle.ec_units.specs.declared.unit.Load.{Load}
use Rattle.ec_units.specs.Load.{load_of, loads_of}
use Rattle.ec_loads.specs.Held.{no_places}
use Rattle.ec_loads.specs.Line.{Rules, line_by}
use Rattle.ec_loads.specs.Shape.{Shape}
use Rattle.ec_loads.specs.Search.{BoundsAll, HasNoPlan, IsPartialTree, IsAtMost, node_count, open_count}
use Rattle.ec_cert.specs.declared.lists.UnitLine.{UnitLine}
use Rattle.ec_cert.specs.declared.cert.Best.{Best}
use Rattle.ec_cert.specs.declared.part.Part.{Part}
use Rattle.ec_cert.specs.IsBestPlan.{value_of, IsBestPlan}
use Rattle.ec_cert.specs.Shapes.{CertView, shape_of}
use Rattle.ec_tree.specs.Trees.{TreesBound}
use Rattle.ec_checker.specs.Certified.{lines_of}
use Rattle.ec_checker.specs.Laws.{FaultsRefute}
use Rattle.ec_checker.specs.Levels.{IsGreatestLevel}
use Rattle.ec_checker.specs.declared.fault.Verdict.TheVariants as verdict
use Rattle.ec_symmetry.specs.Orders.{IsOrder}
use Rattle.ec_outcome.specs.declared.search.Cut.{Cut}
use Rattle.ec_outcome.specs.declared.search.Cut.TheVariants as cut
use Rattle.ec_outcome.specs.declared.search.Outcome.{Outcome}
use Rattle.ec_outcome.specs.declared.search.Outcome.TheVariants as outcome
use Rattle.ec_outcome.specs.declared.search.SolveFault.{SolveFault}
use Rattle.ec_book.specs.Views.{BookView}
use Rattle.ec_book.specs.Books.{IsBookOf}
use Rattle.ec_book.specs.Finishing.{GrowsFrom, IsFinishedOf}
use Rattle.ec_book.specs.Parts.{LeavesOthers, ClosesPart}
use Rattle.ec_book.specs.declared.book.Finished.{Finished}
use Rattle.ec_search_threads.specs.IsCrewed.{IsCrewed}
use Rattle.std.specs.Prelude.{nat_lt, true, false}
use Rattle.ec_workers.specs.Answers.{is_strong, Asked, asked_beyond, GoesBeyond, HasCut, IsCut, IsUnproved, IsOutcome, KeepsToPart, tree_in, value_in}
use Rattle.ec_outcome.specs.Searched.{searched_by}
use Rattle.ec_workers.specs.Outcomes.{proof_version, partial_version, cert_for, IsFound, IsOptimal, IsWithoutPlan, Shows}
use Rattle.ec_workers.proofs.ResumeLemmas.{crewed-nodes}
use Rattle.ec_workers.proofs.ShowLemmas.{AreFew, shows, partial-shows, bounds}

pub few_of : (us : Units) → AreFew us.units us.slots
few_of us = record { least_slots = us.slot_range.0; most_slots = us.slot_range.1; least_units = us.unit_count.0; most_units = us.unit_count.1 }

no_legal : (loads : List Load) (n : ℕ) → BoundsAll loads n None → HasNoPlan loads n
no_legal loads n all plan legal = let has = all plan legal in absurd (none_some has.1)
  where
    none_some : {b : ℕ} → None ≡ Some b → ⊥
    none_some e = absurd cc

with_lines : (us : List SyncUnit) (n : ℕ) (strong : Bool) (order : List ℕ) (best : Option Best) (tree : Shape) (lines : List UnitLine) (c : CertView) → lines ≡ lines_of us
    → c ≡ record { version = proof_version strong; slots = n; units = lines; order = order; best = best; level = None; tree = tree } → c ≡ cert_for us n strong order best tree
with_lines us n strong order best tree lines c is made = made ∙ (λ i. record { version = proof_version strong; slots = n; units = is i; order = order; best = best; level = None; tree = tree })

pub without : FaultsRefute → TreesBound → (us : Units) (strong : Bool) (order : List ℕ) (best : Option Best) (tree : Shape) (lines : List UnitLine) (c : CertView) → IsFound us.units us.slots strong order best tree → best ≡ None → lines ≡ lines_of us.units
    → c ≡ record { version = proof_version strong; slots = us.slots; units = lines; order = order; best = None; level = None; tree = tree } → IsWithoutPlan us.units us.slots c
without refute law us strong order best tree lines c found is said made =
    let none : IsFound us.units us.slots strong order None tree = subst (λ b. IsFound us.units us.slots strong order b tree) is found in
    let whole = with_lines us.units us.slots strong order None tree lines c said made in
    subst (IsWithoutPlan us.units us.slots) (sym whole)
    (record {
      none = no_legal (loads_of us.units) us.slots (bounds law us.units us.slots strong order None tree none);
      held = refl;
      shows = shows refute us.units us.slots strong order None tree (few_of us) none;
    })

pub optimal : FaultsRefute → TreesBound → (us : Units) (strong : Bool) (order : List ℕ) (best : Option Best) (tree : Shape) (lines : List UnitLine) (c : CertView) (b : Best) (plan : List Place) → IsFound us.units us.slots strong order best tree → best ≡ Some b
    → lines ≡ lines_of us.units → plan ≡ b.plan.places → c ≡ record { version = proof_version strong; slots = us.slots; units = lines; order = order; best = Some b; level = None; tree = tree } → IsOptimal us.units us.slots plan b.busiest c
optimal refute law us strong order best tree lines c b plan found is said copied made =
    let some : IsFound us.units us.slots strong order (Some b) tree = subst (λ x. IsFound us.units us.slots strong order x tree) is found in
    let whole = with_lines us.units us.slots strong order (Some b) tree lines c said made in
    subst (λ w. IsOptimal us.units us.slots w b.busiest c) (sym copied)
    (subst (IsOptimal us.units us.slots b.plan.places b.busiest) (sym whole)
    (record {
      legal = some.best_is.0;
      busiest = some.best_is.1;
      bounds = bounds law us.units us.slots strong order (Some b) tree some;
      held = (b, refl, refl, refl);
      shows = shows refute us.units us.slots strong order (Some b) tree (few_of us) some;
    }))

-- the certificate of a search says by its version whether that went by the strong rules
by-version : (strong : Bool) → nat_lt 3 (proof_version strong) ≡ strong
by-version false = refl
by-version true = refl

pub strong-of : (strong : Bool) (c : CertView) → c.version ≡ proof_version strong → is_strong c ≡ strong
strong-of strong c is = ap (λ v. nat_lt 3 v) is ∙ by-version strong

-- the plan fits into room for a place of each unit
pub fits : (us : List SyncUnit) (n : ℕ) (best : Option Best) (b : Best) (room : ℕ) → IsBestPlan (loads_of us) n best → best ≡ Some b → length us ≤ room → length b.plan.places ≤ room
fits us n best b room h is most =
    let some : IsBestPlan (loads_of us) n (Some b) = subst (IsBestPlan (loads_of us) n) is h in
    omega (arith, some.0.whole, length-map us load_of, most)

cut-among : (strong : Bool) (workers nodes : ℕ) (given : Shape) (parts : ℕ) (t : Shape) (why : Cut) → IsCut (asked_beyond strong 1 nodes given parts) t why → IsCut (asked_beyond strong workers nodes given parts) t why
cut-among strong workers nodes given parts t cut.Journal h = absurd (omega (arith, h))
cut-among strong workers nodes given parts t cut.Budget h = h
cut-among strong workers nodes given parts t cut.Memory h = h
cut-among strong workers nodes given parts t cut.Time h = h
cut-among strong workers nodes given parts t cut.Parts h = h

-- what one worker answers is an answer of as many as were asked for
pub among : (us : List SyncUnit) (n : ℕ) (strong : Bool) (workers nodes : ℕ) (given : Shape) (parts : ℕ) (o : Outcome) → IsOutcome us n (asked_beyond strong 1 nodes given parts) o → IsOutcome us n (asked_beyond strong workers nodes given parts) o
among us n strong workers nodes given parts (outcome.Optimal plan b cert) h = h
among us n strong workers nodes given parts (outcome.NoPlan cert) h = h
among us n strong workers nodes given parts (outcome.Unproved best order tree by why) h =
    record { rules_is = h.rules_is; order_is = h.order_is; best_is = h.best_is; tree_is = h.tree_is; cut_is = cut-among strong workers nodes given parts (shape_of tree) why h.cut_is }

pub all_among : (us : List SyncUnit) (n : ℕ) (strong : Bool) (workers nodes : ℕ) (given : Shape) (parts : ℕ) (r : Result Outcome SolveFault) → IfOk r (IsOutcome us n (asked_beyond strong 1 nodes given parts)) → IfOk r (IsOutcome us n (asked_beyond strong workers nodes given parts))
all_among us n strong workers nodes given parts (Ok o) h = among us n strong workers nodes given parts o h
all_among us n strong workers nodes given parts (Err e) h = tt

-- why a search of which a leaf is open was cut, by the nodes that it spent
pub cut-of : (strong : Bool) (workers nodes spent : ℕ) (given tree : Shape) (parts : ℕ) (why : Cut) → (why ≡ cut.Budget → spent ≡ nodes) → (why ≡ cut.Memory → spent ≢ nodes) → (why ≡ cut.Time → spent ≢ nodes) → (why ≡ cut.Parts → (1 < parts) × (spent ≢ nodes))
    → (why ≡ cut.Journal → 1 < workers) → node_count tree ≡ node_count given + spent → 0 < open_count tree → IsCut (asked_beyond strong workers nodes given parts) tree why
cut-of strong workers nodes spent given tree parts cut.Journal budget memory time shared journal is some = journal refl
cut-of strong workers nodes spent given tree parts cut.Budget budget memory time shared journal is some = let all = budget refl in (omega (arith, is, all), some)
cut-of strong workers nodes spent given tree parts cut.Memory budget memory time shared journal is some = (λ all. memory refl (omega (arith, is, all)), some)
cut-of strong workers nodes spent given tree parts cut.Time budget memory time shared journal is some = (λ all. time refl (omega (arith, is, all)), some)
cut-of strong workers nodes spent given tree parts cut.Parts budget memory time shared journal is some = let other = shared refl in (other.0, λ all. other.1 (omega (arith, is, all)), some)

-- what a finished book gives of which a leaf is open
pub unproved-of : (us : List SyncUnit) (n : ℕ) (asked : Asked) (order : List ℕ) (b : BookView) (f : Finished) (why : Cut) → IsOrder (length us) order → IsBookOf us n order (searched_by asked.strong) b → IsFinishedOf b f → IsCut asked (shape_of f.tree) why
    → IsUnproved us n asked f.best order (shape_of f.tree) asked.strong why
unproved-of us n asked order b f why order_is of is cut_is =
    let T : Rules → List Load → ℕ → Option ℕ → List ℕ → Type 0 = λ r ls k v o. IsPartialTree (line_by r ls k) v (shape_of f.tree) (no_places ls) o in
    record {
      rules_is = refl;
      order_is = order_is;
      best_is = subst (λ ls. IsBestPlan ls n f.best) of.loads_is (subst (λ k. IsBestPlan b.loads k f.best) of.slots_is is.legal);
      tree_is =
          subst (λ r. T r (loads_of us) n (value_of f.best) order) of.rules_is
          (subst (λ ls. T b.rules ls n (value_of f.best) order) of.loads_is
          (subst (λ k. T b.rules b.loads k (value_of f.best) order) of.slots_is
          (subst (λ o. T b.rules b.loads b.slots (value_of f.best) o) of.order_is
          (subst (λ v. T b.rules b.loads b.slots v b.order) (ap value_of (sym is.best)) is.tree))));
      cut_is = cut_is;
    }

-- an outcome with the tree and the value of a finished book goes on from what that book was given
pub beyond : (b : BookView) (f : Finished) (nodes : ℕ) (o : Outcome) → IsFinishedOf b f → b.nodes ≡ nodes → tree_in o ≡ shape_of f.tree → value_in o ≡ value_of f.best → GoesBeyond b.given b.given_value nodes o
beyond b f nodes o is nodes_is tree value =
    record {
      grows = subst (GrowsFrom b.given) (sym tree) is.extends;
      falls = subst (λ v. IsAtMost v b.given_value) (sym (value ∙ ap value_of is.best)) is.falls;
      within = subst (λ t. node_count t ≤ node_count b.given + nodes) (sym tree) (let all = is.nodes in let spent = is.spent in let most = is.within in omega (arith, all, spent, most, nodes_is));
    }

-- and keeps to the part, where it says that there are other parts only if its own is done
pub keeps-of : (b : BookView) (f : Finished) (o : Outcome) → IsFinishedOf b f → tree_in o ≡ shape_of f.tree → (HasCut cut.Parts o → IsTrue f.done) → KeepsToPart b.part b.given o
keeps-of b f o is tree done = record {
  others = subst (LeavesOthers b.part b.given) (sym tree) is.others;
  closed = λ why. subst (ClosesPart b.part b.given) (sym tree) (is.done (done why));
}

-- the same of what several workers made
pub crew-keeps : (us : List SyncUnit) (n : ℕ) (order : List ℕ) (rules : Rules) (given : Shape) (value : Option ℕ) (nodes : ℕ) (part : Part) (f : Finished) (o : Outcome) → IsCrewed us n order rules given value nodes part f → tree_in o ≡ shape_of f.tree
    → (HasCut cut.Parts o → IsTrue f.done) → KeepsToPart part given o
crew-keeps us n order rules given value nodes part f o (b, of, began, is) tree done =
    subst (λ g. KeepsToPart part g o) began.given_is (subst (λ p. KeepsToPart p b.given o) began.part_is (keeps-of b f o is tree done))

pub crew-beyond : (us : List SyncUnit) (n : ℕ) (order : List ℕ) (rules : Rules) (given : Shape) (value : Option ℕ) (nodes : ℕ) (part : Part) (f : Finished) (o : Outcome) → IsCrewed us n order rules given value nodes part f → tree_in o ≡ shape_of f.tree → value_in o ≡ value_of f.best → GoesBeyond given value nodes o
crew-beyond us n order rules given value nodes part f o (b, of, began, is) tree value_is =
    subst (λ g. GoesBeyond g value nodes o) began.given_is
    (subst (λ v. GoesBeyond b.given v nodes o) began.value_is (beyond b f nodes o is began.nodes_is tree value_is))

pub crew-unproved : (us : List SyncUnit) (n : ℕ) (strong : Bool) (workers nodes : ℕ) (order : List ℕ) (given : Shape) (value : Option ℕ) (part : Part) (f : Finished) (why : Cut) → IsOrder (length us) order → IsCrewed us n order (searched_by strong) given value nodes part f
    → (node_count (shape_of f.tree) ≡ node_count given + f.spent → IsCut (asked_beyond strong workers nodes given part.count) (shape_of f.tree) why) → IsUnproved us n (asked_beyond strong workers nodes given part.count) f.best order (shape_of f.tree) strong why
crew-unproved us n strong workers nodes order given value part f why order_is h cut_is =
    unproved-of us n (asked_beyond strong workers nodes given part.count) order h.0 f why order_is h.1 h.3 (cut_is (crewed-nodes us n order (searched_by strong) given value nodes part f h))

-- the certificate of a search that ended without a proof, whose lines are those of the units
pub unfinished : FaultsRefute → (us : Units) (strong : Bool) (order : List ℕ) (best : Option Best) (tree : Shape) (level : ℕ) (lines : List UnitLine) → IsOrder (length us.units) order → IsBestPlan (loads_of us.units) us.slots best
    → IsPartialTree (line_by (searched_by strong) (loads_of us.units) us.slots) (value_of best) tree (no_places (loads_of us.units)) order → IsGreatestLevel (line_by (searched_by strong) (loads_of us.units) us.slots) (value_of best) tree order level → lines ≡ lines_of us.units
    → Shows us.units us.slots (record { version = partial_version strong; slots = us.slots; units = lines; order = order; best = best; level = Some level; tree = tree }) (verdict.AtLeast level)
unfinished refute us strong order best tree level lines order_is best_is partial is said =
    subst (λ ls. Shows us.units us.slots (record { version = partial_version strong; slots = us.slots; units = ls; order = order; best = best; level = Some level; tree = tree }) (verdict.AtLeast level)) (sym said)
    (partial-shows refute us.units us.slots strong order best tree level (few_of us) order_is best_is partial is)
