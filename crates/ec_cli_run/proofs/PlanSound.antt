-- What a plan tells is true.
use Rattle.std.proofs.Common.{Bool, ◌≡◌, ℕ, ◌≤◌, List, length, Option, Some, Ok, ap, subst, sym, ◌∙◌, inl, inr, arith}
use Rattle.std.specs.Prelude.{option_map}
use Rattle.std.proofs.lemmas.List.{length-map}
use Rattle.ec_units.specs.declared.unit.Load.{Load}
use Rattle.ec_units.specs.declared.units.Units.{Units}
use Rattle.ec_units.specs.Load.{load_of, loads_of}
use Rattle.ec_unit_text.specs.Reading.{reading}
use Rattle.ec_units.specs.Views.{UnitsView, units_view, view_loads}
use Rattle.ec_units.proofs.Viewed.{loads_of-views}
use Rattle.ec_loads.specs.Line.{line_by}
use Rattle.ec_loads.specs.Shape.{Shape}
use Rattle.ec_loads.specs.Search.{BoundsAll, IsLeast, HasNoPlan}
use Rattle.ec_loads.proofs.ItemLemmas.{AreLoads-loads_of}
use Rattle.ec_cert.specs.declared.cert.Best.{Best}
use Rattle.ec_cert.specs.IsBestPlan.{value_of}
use Rattle.ec_cert.specs.Shapes.{cert_view, shape_of}
use Rattle.ec_symmetry.specs.Orders.{IsOrder}
use Rattle.ec_tree.specs.Trees.{LevelsBound}
use Rattle.ec_checker.specs.Levels.{IsGreatestLevel}
use Rattle.ec_outcome.specs.Searched.{searched_by}
use Rattle.ec_workers.specs.Answers.{Asked, asked_beyond, IsOutcome, is_strong}
use Rattle.ec_outcome.specs.declared.search.Outcome.{Outcome}
use Rattle.ec_outcome.specs.declared.search.Outcome.TheVariants as outcome
use Rattle.ec_cli_text.specs.Outcomes.{outcome_output, optimal_text, unproved_text, IsLevelOf}
use Rattle.ec_cli_text.specs.Output.{Written}
use Rattle.ec_cli_answers.specs.Merged.{IsMergeWritten}
use Rattle.ec_cli_answers.specs.Planned.{IsShownAt, outcome_cert}
use Rattle.ec_cert_text.specs.Text.{certificate_text}
use Rattle.ec_checker.specs.declared.fault.Verdict.TheVariants as verdict
use Rattle.ec_workers.specs.Outcomes.{Shows, partial_for}
use Rattle.ec_cli_run.specs.Sound.{IsShownBy, TellsOptimal, TellsWithoutPlan, TellsTruth, PlanIsTrue, ResumeIsTrue, IsSearchTold, OneLeastEach}
use Rattle.ec_cli_run.proofs.OneOutput.{ok_once}
use Rattle.ec_cli_run.proofs.StatusLemmas.{by_0, by_1, by_2, by_refusal}

-- a level that a search has proved bounds every legal plan
level_bounds : LevelsBound → (us : Units) (strong : Bool) (order : List ℕ) (best : Option Best) (tree : Shape) (l : ℕ) → IsOrder (length us.units) order
    → IsGreatestLevel (line_by (searched_by strong) (loads_of us.units) us.slots) (value_of best) tree order l → BoundsAll (loads_of us.units) us.slots (Some l)
level_bounds levels us strong order best tree l is greatest =
    levels (line_by (searched_by strong) (loads_of us.units) us.slots) (value_of best) l tree order (AreLoads-loads_of us.units) (subst (λ k. IsOrder k order) (sym (length-map us.units load_of)) is) greatest.shows

pub some_same : (b c : ℕ) → Some b ≡ Some c → b ≡ c
some_same b c h = cc

-- the certificate of a search without a proof shows its level
shown_at : (us : Units) (strong : Bool) (order : List ℕ) (best : Option Best) (tree : Shape) (level : Option ℕ) (l : ℕ) (cert : Option (List ℕ)) → level ≡ Some l
    → cert ≡ option_map (λ m. certificate_text (partial_for us.units us.slots strong order best m tree)) level
    → (m : ℕ) × (level ≡ Some m) × Shows us.units us.slots (partial_for us.units us.slots strong order best m tree) (verdict.AtLeast m) → IsShownBy us (verdict.AtLeast l) cert
shown_at us strong order best tree level l cert is kept (m, also, shows) = (
  partial_for us.units us.slots strong order best l tree,
  kept ∙ ap (λ (o : Option ℕ). option_map (λ m. certificate_text (partial_for us.units us.slots strong order best m tree)) o) is,
  subst (λ (k : ℕ). Shows us.units us.slots (partial_for us.units us.slots strong order best k tree) (verdict.AtLeast k)) (some_same m l (sym also ∙ is)) shows,
)

-- the text of an outcome says what the outcome does
outcome_true : LevelsBound → (asked : Asked) (bytes : List ℕ) (us : Units) (o : Outcome) (level : Option ℕ) (w : Written) (cert : Option (List ℕ)) → reading bytes ≡ Ok (units_view us) → IsOutcome us.units us.slots asked o → IsLevelOf us.units us.slots o level
    → w ≡ outcome_output us.units o level → cert ≡ outcome_cert us o level → IsShownAt us o level → TellsTruth bytes w cert
outcome_true levels asked bytes us (outcome.Optimal plan b c) level w cert said h proved is kept shows =
    by_0 w.code (ap (λ (v : Written). v.code) is)
    (record { units = us; said = said; busiest = b; plan = plan.places; lines = ap (λ (v : Written). v.text) is; legal = h.legal; exact = h.busiest; bounds = h.bounds; shown = (cert_view c, kept, h.shows) })
outcome_true levels asked bytes us (outcome.NoPlan c) level w cert said h proved is kept shows =
    by_1 w.code (ap (λ (v : Written). v.code) is) (record { units = us; said = said; line = ap (λ (v : Written). v.text) is; none = h.none; shown = (cert_view c, kept, h.shows) })
outcome_true levels asked bytes us (outcome.Unproved best order tree strong why) level w cert said h proved is kept shows =
    by_2 w.code (ap (λ (v : Written). v.code) is)
    (record {
      units = us;
      said = said;
      best = best;
      why = why;
      level = proved.0;
      lines = ap (λ (v : Written). v.text) is ∙ ap (λ (o : Option ℕ). unproved_text us.units best why o) proved.1;
      legal = h.best_is;
      bounds = level_bounds levels us strong order best (shape_of tree) proved.0 h.order_is proved.2;
      shown = shown_at us strong order best (shape_of tree) level proved.0 cert proved.1 kept shows;
    })

pub plan_true : LevelsBound → PlanIsTrue
plan_true levels keep asked bytes w cert (inl h) = outcome_true levels asked bytes h.units h.found h.level w cert h.answer.read.1 h.answer.answer h.shown h.text h.certificate h.shows
plan_true levels keep asked bytes w cert (inr h) = by_refusal w h.refusal h.line

pub resume_true : LevelsBound → ResumeIsTrue
resume_true levels workers nodes part bytes text w cert (inl h) =
    outcome_true levels (asked_beyond (is_strong h.answer.cert) workers nodes h.answer.cert.tree part.count) bytes h.units h.found h.level w cert h.answer.read.1 h.answer.goes.answer h.shown h.text h.certificate h.shows
resume_true levels workers nodes part bytes text w cert (inr h) = by_refusal w h.refusal h.line

pub merge_true : LevelsBound → (bytes : List ℕ) (w : Written) (cert : Option (List ℕ)) → IsMergeWritten bytes w cert → TellsTruth bytes w cert
merge_true levels bytes w cert (_, h) = outcome_true levels h.answer.asked bytes h.units h.found h.level w cert h.answer.read.1 h.answer.answer h.shown h.text h.certificate h.shows

-- the certificate of what was told, and its truth
pub told_true : LevelsBound → (bytes : List ℕ) (w : Written) → IsSearchTold bytes w → (cert : Option (List ℕ)) × TellsTruth bytes w cert
told_true levels bytes w (inl (keep, asked, cert, h)) = (cert, plan_true levels keep asked bytes w cert h)
told_true levels bytes w (inr (inl (workers, nodes, part, text, cert, h))) = (cert, resume_true levels workers nodes part bytes text w cert h)
told_true levels bytes w (inr (inr (cert, h))) = (cert, merge_true levels bytes w cert h)

-- the least cost of units is that of what is seen of them
least_view : (us : Units) (b : ℕ) → IsLeast (loads_of us.units) us.slots b → IsLeast (view_loads (units_view us).units) (units_view us).slots b
least_view us b h = subst (λ (ls : List Load). IsLeast ls us.slots b) (loads_of-views us.units) h

pub told_least : (bytes : List ℕ) (w : Written) (cert : Option (List ℕ)) (h : TellsOptimal bytes w cert) → IsLeast (view_loads (units_view h.units).units) (units_view h.units).slots h.busiest
told_least bytes w cert h = least_view h.units h.busiest (record { plan = h.plan; legal = h.legal; busiest = h.exact; bounds = h.bounds })

-- there is one least cost
least_below : (ls : List Load) (n b c : ℕ) → IsLeast ls n b → IsLeast ls n c → b ≤ c
least_below ls n b c p q =
    let at = p.bounds q.plan q.legal in
    omega (arith, some_same b at.0 at.1, at.3, q.busiest.most at.2)

least_once : (ls : List Load) (n b c : ℕ) → IsLeast ls n b → IsLeast ls n c → b ≡ c
least_once ls n b c p q = omega (arith, least_below ls n b c p q, least_below ls n c b q p)

two_least : (bytes : List ℕ) (v w : Written) (c d : Option (List ℕ)) (p : TellsOptimal bytes v c) (q : TellsOptimal bytes w d) → p.busiest ≡ q.busiest
two_least bytes v w c d p q =
    let same : units_view q.units ≡ units_view p.units = ok_once (reading bytes) (units_view q.units) (units_view p.units) q.said p.said in
    let other : IsLeast (view_loads (units_view p.units).units) (units_view p.units).slots q.busiest =
    subst (λ (u : UnitsView). IsLeast (view_loads u.units) u.slots q.busiest) same (told_least bytes w d q) in
    least_once (view_loads (units_view p.units).units) (units_view p.units).slots p.busiest q.busiest (told_least bytes v c p) other

-- units with a legal plan aren't without one
not_without : (bytes : List ℕ) (v w : Written) (c d : Option (List ℕ)) → TellsOptimal bytes v c → TellsWithoutPlan bytes w d → ⊥
not_without bytes v w c d p q =
    let same : units_view q.units ≡ units_view p.units = ok_once (reading bytes) (units_view q.units) (units_view p.units) q.said p.said in
    let own : HasNoPlan (view_loads (units_view q.units).units) (units_view q.units).slots = subst (λ (ls : List Load). HasNoPlan ls q.units.slots) (loads_of-views q.units.units) q.none in
    let none : HasNoPlan (view_loads (units_view p.units).units) (units_view p.units).slots = subst (λ (u : UnitsView). HasNoPlan (view_loads u.units) u.slots) same own in
    let least = told_least bytes v c p in
    none least.plan least.legal

pub least_each : LevelsBound → OneLeastEach
least_each levels bytes v w p q zero =
    let first = told_true levels bytes v p in
    let second = told_true levels bytes w q in
    let one = first.1.0 zero in (
      λ also. (let other = second.1.0 also in (
        one.busiest,
        (_, one.lines),
        (_, other.lines ∙ ap (λ (b : ℕ). optimal_text other.units.units other.plan b) (sym (two_least bytes v w first.0 second.0 one other))),
      )),
      λ none. not_without bytes v w first.0 second.0 one (second.1.1 none),
    )
