-- Turned time: of the empty prefix a unit tries phase 0 alone, and a plan that is sent earlier is reached so.
use Rattle.std.proofs.Common.{◌≡◌, ℕ, zero, suc, ◌+◌, ◌-◌, ◌%◌, ◌<◌, ◌≤◌, ◌==◌, ◌&&◌, min, Bool, true, false, if◌then◌else◌, List, [], ◌∷◌, length, set, get_or, Some, None, All, refl, sym, ap, ◌∙◌, subst, arith}
use Rattle.std.specs.List.{list_any}
use Rattle.std.proofs.lemmas.Bool.{cond_both, ne_eqb}
use Rattle.std.proofs.lemmas.List.{length-map, get_or-map}
use Rattle.std.proofs.lemmas.List.Elements.{All-head}
use Rattle.std.proofs.Math.Nat.{add-mod_right, mod-eq_of_lt}
use Rattle.ec_units.specs.declared.slave.Place.{Place}
use Rattle.ec_units.specs.declared.unit.Load.{Load}
use Rattle.ec_loads.specs.Cost.{plan_items, IsBusiest}
use Rattle.ec_loads.specs.Held.{AreLoads, no_places}
use Rattle.ec_loads.specs.Legal.{Fits, IsLegal}
use Rattle.ec_loads.specs.Line.{slots_alone, turned_time, rules_if, line_by}
use Rattle.ec_loads.specs.Search.{Prefix, nobody, nowhere, places_for, used, different_numbers, slots_in, has_no_place, phases_by, children}
use Rattle.ec_symmetry.specs.Reached.{In, IsCanonical, IsReached, IsInRange, CostsAlike, CostsWithin}
use Rattle.ec_symmetry.specs.Renamed.{renamed, IsRenamed}
use Rattle.ec_symmetry.specs.Turned.{earlier, earlier_plan, first_phase, turned_plan, CostsAsPlan}
use Rattle.ec_symmetry.proofs.InLemmas.{In-places, children-In, children-is}
use Rattle.ec_symmetry.proofs.CanonLemmas.{Canon, canon-all, phase_at}
use Rattle.ec_symmetry.proofs.ShiftLemmas.{earlier-range, earlier-fits, earlier-costs, costs-back, earlier-at}

one_counts : (n : ℕ) (ns : List ℕ) → 1 ≤ different_numbers (n ∷ ns)
one_counts n [] = omega arith
one_counts n (m ∷ ns) =
    let rest = one_counts m ns in
    cond_both (list_any (λ k. n == k) (m ∷ ns)) 0 1 (λ w. 1 ≤ w + different_numbers (m ∷ ns)) (λ _. omega arith) (λ _. omega arith)

-- no unit has a place where no slot is in use
pub none-used : (ps : Prefix) → has_no_place ps ≡ (used ps == 0)
none-used [] = refl
none-used (None ∷ ps) = none-used ps
none-used (Some p ∷ ps) = sym (ne_eqb (used (Some p ∷ ps)) 0 (λ e. let some = one_counts p.slot (slots_in ps) in omega (arith, e, some)))

phases-is : (turned : Bool) (loads : List Load) (period k : ℕ) (ps : Prefix) → 1 ≤ period → k ≡ used ps → (if turned && (k == 0) then 1 else period) ≡ phases_by (rules_if turned) loads ps period
phases-is false loads period k ps some is = refl
phases-is true loads period k ps some is =
    let one : 1 ≡ min 1 period = omega arith in
    ap (λ w. if w == 0 then 1 else period) is
    ∙ ap (λ b. if b then 1 else period) (sym (none-used ps))
    ∙ ap (λ m. if has_no_place ps then m else period) one

-- the places of a unit where so many slots are in use are its children
pub children-by : (turned : Bool) (loads : List Load) (n : ℕ) (ps : Prefix) (u k : ℕ) → 1 ≤ (get_or loads u nobody).period → k ≡ used ps
    → places_for (if turned && (k == 0) then 1 else (get_or loads u nobody).period) n k ≡ children (line_by (rules_if turned) loads n) ps u
children-by turned loads n ps u k some is =
    (λ i. places_for (phases-is turned loads (get_or loads u nobody).period k ps some is i) n (is i)) ∙ sym (children-is turned loads n ps u)

-- a unit that is sent earlier by its own phase has phase 0
own-phase : (p f : ℕ) → f < p → earlier f p f ≡ 0
own-phase p f h =
    let whole : f + (p - f) ≡ 0 + p = omega arith in
    ap (λ w. (f + (p - w)) % p) (mod-eq_of_lt h) ∙ ap (λ w. w % p) whole ∙ add-mod_right 0 p ∙ mod-eq_of_lt (let pos : 0 < p = omega arith in pos)

first-turned : (loads : List Load) (n : ℕ) (order : List ℕ) (plan : List Place) → All (λ u. u < length loads) order → IsInRange loads n plan → first_phase order (earlier_plan (first_phase order plan) loads plan) ≡ 0
first-turned loads n [] plan all r = refl
first-turned loads n (u ∷ order) plan all r =
    let within = All-head (λ w. w < length loads) u order all in
    ap (λ (q : Place). q.phase) (earlier-at (get_or plan u nowhere).phase loads plan u within r.whole)
    ∙ own-phase (get_or loads u nobody).period (get_or plan u nowhere).phase (phase_at loads plan u within r.whole r.phases)

-- renamed slots leave the phases
first-renamed : (loads : List Load) (order : List ℕ) (plan other : List Place) → All (λ u. u < length loads) order → length plan ≡ length loads → IsRenamed plan other → first_phase order other ≡ first_phase order plan
first-renamed loads [] plan other all whole r = refl
first-renamed loads (u ∷ order) plan other all whole r =
    let within = All-head (λ w. w < length loads) u order all in
    ap (λ w. (get_or w u nowhere).phase) r.is
    ∙ ap (λ (q : Place). q.phase) (get_or-map (λ p. record { phase = p.phase; slot = r.name p.slot }) plan u nowhere nowhere (omega arith))

has-place-more : (ps : Prefix) (u : ℕ) (p : Place) → has_no_place ps ≡ false → has_no_place (set ps u (Some p)) ≡ false
has-place-more [] u p h = h
has-place-more (None ∷ ps) zero p h = refl
has-place-more (None ∷ ps) (suc u) p h = has-place-more ps u p h
has-place-more (Some q ∷ ps) zero p h = refl
has-place-more (Some q ∷ ps) (suc u) p h = refl

has-place-set : (ps : Prefix) (u : ℕ) (p : Place) → u < length ps → has_no_place (set ps u (Some p)) ≡ false
has-place-set [] u p h = absurd (omega arith)
has-place-set (None ∷ ps) zero p h = refl
has-place-set (None ∷ ps) (suc u) p h = has-place-set ps u p (omega arith)
has-place-set (Some q ∷ ps) zero p h = refl
has-place-set (Some q ∷ ps) (suc u) p h = refl

none-placed : (loads : List Load) → has_no_place (no_places loads) ≡ true
none-placed [] = refl
none-placed (l ∷ ls) = none-placed ls

same-children : (loads : List Load) (n : ℕ) (ps : Prefix) (u : ℕ) → has_no_place ps ≡ false → children (line_by slots_alone loads n) ps u ≡ children (line_by turned_time loads n) ps u
same-children loads n ps u h =
    let p = (get_or loads u nobody).period in
    children-is false loads n ps u ∙ ap (λ b. places_for (if b then min 1 p else p) n (used ps)) (sym h) ∙ sym (children-is true loads n ps u)

-- after the first unit both rules have the same children
turn-later : (loads : List Load) (n : ℕ) (ps : Prefix) (order : List ℕ) (plan : List Place) → has_no_place ps ≡ false → IsCanonical (line_by slots_alone loads n) ps order plan → IsCanonical (line_by turned_time loads n) ps order plan
turn-later loads n ps [] plan h k = tt
turn-later loads n ps (u ∷ order) plan h k = (
  subst (In (get_or plan u nowhere)) (same-children loads n ps u h) k.0,
  turn-later loads n (set ps u (Some (get_or plan u nowhere))) order plan (has-place-more ps u (get_or plan u nowhere) h) k.1,
)

-- a plan that slots alone reach, whose first unit has phase 0, is reached where time is turned
turn-reached : (loads : List Load) (n : ℕ) (order : List ℕ) (plan : List Place) → All (λ u. u < length loads) order → first_phase order plan ≡ 0 → IsReached (line_by slots_alone loads n) order plan → IsReached (line_by turned_time loads n) order plan
turn-reached loads n [] plan all at k = tt
turn-reached loads n (u ∷ order) plan all at k =
    let within = All-head (λ w. w < length loads) u order all in
    let p = get_or plan u nowhere in
    let period = (get_or loads u nobody).period in
    let low = children-In (line_by slots_alone loads n) (no_places loads) u p k.0 in
    let size : length (no_places loads) ≡ length loads = length-map loads (λ _. None) in
    let phase : p.phase < phases_by turned_time loads (no_places loads) period =
    subst (λ b. p.phase < (if b then min 1 period else period)) (sym (none-placed loads)) (omega (arith, at, low.0)) in (
      In-places true loads n (no_places loads) u p phase low.1 low.2,
      turn-later loads n (set (no_places loads) u (Some p)) order plan (has-place-set (no_places loads) u p (omega arith)) k.1,
    )

turned-range : (turned : Bool) (loads : List Load) (n : ℕ) (order : List ℕ) (plan : List Place) → IsInRange loads n plan → IsInRange loads n (turned_plan turned loads order plan)
turned-range false loads n order plan r = r
turned-range true loads n order plan r = earlier-range (first_phase order plan) loads n plan r

turned-fits : (turned : Bool) (loads : List Load) (n : ℕ) (order : List ℕ) (plan : List Place) → IsInRange loads n plan → Fits (plan_items loads plan) n → Fits (plan_items loads (turned_plan turned loads order plan)) n
turned-fits false loads n order plan r fits = fits
turned-fits true loads n order plan r fits = earlier-fits (first_phase order plan) loads n plan r.phases fits

turned-reached : (turned : Bool) (loads : List Load) (n : ℕ) (order : List ℕ) (plan other : List Place) → All (λ u. u < length loads) order → IsInRange loads n plan → Canon loads n (no_places loads) order (turned_plan turned loads order plan) other → IsReached (line_by (rules_if turned) loads n) order other
turned-reached false loads n order plan other all r c = c.canonical
turned-reached true loads n order plan other all r c =
    let sent = earlier_plan (first_phase order plan) loads plan in
    turn-reached loads n order other all
    (first-renamed loads order sent other all (earlier-range (first_phase order plan) loads n plan r).whole c.names ∙ first-turned loads n order plan all r) c.canonical

busiest-moves : (loads : List Load) (n b : ℕ) (one two : List Place) → CostsWithin loads n one two → CostsWithin loads n two one → IsBusiest (plan_items loads one) n b → IsBusiest (plan_items loads two) n b
busiest-moves loads n b one two here back is =
    let at = here is.reached.0 in
    record {
      reached = (at.0, sym at.1 ∙ is.reached.1);
      most = λ t. let i = back t in subst (λ w. w ≤ b) (sym i.1) (is.most i.0);
    }

costs-from : (turned : Bool) (loads : List Load) (n : ℕ) (other plan : List Place) → CostsWithin loads n other plan → CostsWithin loads n plan other → (turned ≡ false → CostsAlike loads n other plan) → CostsAsPlan turned loads n other plan
costs-from turned loads n other plan here back alike =
    record {
      within = here;
      back = back;
      alike = alike;
      busiest = λ b. (busiest-moves loads n b other plan here back, busiest-moves loads n b plan other back here);
    }

turned-costs : (turned : Bool) (loads : List Load) (n : ℕ) (order : List ℕ) (plan other : List Place) → AreLoads loads → IsInRange loads n plan → CostsAlike loads n other (turned_plan turned loads order plan) → CostsAsPlan turned loads n other plan
turned-costs false loads n order plan other within r alike =
    costs-from false loads n other plan (λ t. (t, alike t)) (λ t. (t, sym (alike t))) (λ _. alike)
turned-costs true loads n order plan other within r alike =
    let d = first_phase order plan in
    costs-from true loads n other plan
    (λ t. let i = earlier-costs d loads n plan r.phases t in (i.0, alike t ∙ i.1))
    (λ t. let i = costs-back d loads n plan within r.phases t in (i.0, i.1 ∙ sym (alike i.0)))
    (λ e. cc)

-- the plan with its slots renamed, sent earlier where time is turned
pub record Turned (turned : Bool) (loads : List Load) (n : ℕ) (order : List ℕ) (plan other : List Place) : Type 0 where
  pub reached : IsReached (line_by (rules_if turned) loads n) order other
  pub costs : CostsAsPlan turned loads n other plan
  pub legal : IsLegal loads n plan → IsLegal loads n other
  pub range : IsInRange loads n other
  pub names : IsRenamed (turned_plan turned loads order plan) other

pub turned-all : (turned : Bool) (loads : List Load) (n : ℕ) (order : List ℕ) (plan : List Place) → AreLoads loads → All (λ u. u < length loads) order → IsInRange loads n plan → Turned turned loads n order plan (renamed 0 order (turned_plan turned loads order plan))
turned-all turned loads n order plan within all r =
    let sent = turned_plan turned loads order plan in
    let other = renamed 0 order sent in
    let c = canon-all loads n order sent all (turned-range turned loads n order plan r) in
    record {
      reached = turned-reached turned loads n order plan other all r c;
      costs = turned-costs turned loads n order plan other within r c.costs;
      legal = λ legal. record { whole = c.range.whole; phases = c.range.phases; slots = c.range.slots; fits = c.fits (turned-fits turned loads n order plan r legal.fits) };
      range = c.range;
      names = c.names;
    }
