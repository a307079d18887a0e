-- Each plan has one that the children reach, of equal cost in every tick.
-- A crate above cites `canon-all`: a plan within its ranges has a `Canon` from the empty prefix, its renamed self.
-- `canon` is the same from any prefix without a gap; `canon-legal` keeps a plan legal. A tree law recurses on the field
-- `canonical`: at a split its `.0` is `In` of the unit's place among the children (`InLemmas.In-cases`), its `.1` the
-- rest at the longer prefix. `Extends-none` starts an extension, `Extends-set` keeps it, `step_next` keeps `NoGap`.
use Rattle.std.proofs.Common.{◌≡◌, ℕ, zero, suc, ◌<◌, ◌≤◌, ◌==◌, ◌⊎◌, true, List, [], ◌∷◌, map, length, set, get_or, slice_get, All, Some, None, refl, sym, ap, ◌∙◌, subst, arith, inl, inr}
use Rattle.std.proofs.lemmas.Bool.{cases_lt, eq-eqb, or_left, or_right, cond-true, cond-false, lt-ltb, le-ltb}
use Rattle.std.proofs.lemmas.List.{length-map, get_or-map, map-id}
use Rattle.std.proofs.lemmas.Simd.{map-map}
use Rattle.std.proofs.lemmas.List.Elements.{All-head, All-tail, All-map, All-weaker}
use Rattle.ec_units.specs.declared.slave.Place.{Place}
use Rattle.ec_units.specs.declared.unit.Load.{Load}
use Rattle.ec_loads.specs.declared.item.Item.{Item}
use Rattle.ec_loads.specs.Cost.{plan_items, payload, tick_cost}
use Rattle.ec_loads.specs.Held.{no_places}
use Rattle.ec_loads.specs.Legal.{Fits, IsLegal}
use Rattle.ec_loads.specs.Line.{slots_alone, line_by}
use Rattle.ec_loads.specs.Search.{Prefix, Extends, done, free, same, slots_in, used, nobody, nowhere, children}
use Rattle.ec_symmetry.specs.Reached.{In, IsCanonical, IsInRange, CostsAlike}
use Rattle.ec_symmetry.specs.Renamed.{swap, swap_place, swap_slots, renamed, IsRenamed}
use Rattle.ec_symmetry.proofs.InLemmas.{In-children}
use Rattle.ec_symmetry.proofs.SwapLemmas.{swap-second, swap-other, swap-swap, swap-below, swap_item, swap-items, swap-payload, swap-cost}
use Rattle.ec_symmetry.proofs.UsedLemmas.{member, NoGap, NoGap-none, Stepped, step_free, used-none}

-- a plan that extends a prefix still does where the prefix gets one of its places
pub Extends-set : (ps : Prefix) (plan : List Place) (u : ℕ) → Extends ps (map Some plan) → Extends (set ps u (Some (get_or plan u nowhere))) (map Some plan)
Extends-set [] [] u e = done
Extends-set [] (q ∷ qs) u e = elim e [ ]
Extends-set (None ∷ ps) [] u e = elim e [ ]
Extends-set (Some p ∷ ps) [] u e = elim e [ ]
Extends-set (None ∷ ps) (q ∷ qs) zero (free e) = same e
Extends-set (None ∷ ps) (q ∷ qs) (suc u) (free e) = free (Extends-set ps qs u e)
Extends-set (Some p ∷ ps) (q ∷ qs) zero (same e) = same e
Extends-set (Some p ∷ ps) (q ∷ qs) (suc u) (same e) = same (Extends-set ps qs u e)

-- it has the places of the prefix
pub Extends-get : (ps : Prefix) (plan : List Place) (u : ℕ) (p : Place) → u < length plan → Extends (set ps u (Some p)) (map Some plan) → get_or plan u nowhere ≡ p
Extends-get [] [] u p h e = absurd (omega arith)
Extends-get [] (q ∷ qs) u p h e = elim e [ ]
Extends-get (r ∷ ps) [] u p h e = absurd (omega arith)
Extends-get (r ∷ ps) (q ∷ qs) zero p h (same e) = refl
Extends-get (None ∷ ps) (q ∷ qs) (suc u) p h (free e) = Extends-get ps qs u p (omega arith) e
Extends-get (Some r ∷ ps) (q ∷ qs) (suc u) p h (same e) = Extends-get ps qs u p (omega arith) e

-- each plan extends the empty prefix
pub Extends-none : (loads : List Load) (plan : List Place) → length plan ≡ length loads → Extends (no_places loads) (map Some plan)
Extends-none [] [] e = done
Extends-none [] (p ∷ ps) e = absurd (omega arith)
Extends-none (l ∷ ls) [] e = absurd (omega arith)
Extends-none (l ∷ ls) (p ∷ ps) e = free (Extends-none ls ps (omega arith))

-- a plan that has the unit's place has the prefix without it
Extends-unset : (ps : Prefix) (plan other : List Place) (u : ℕ) → Extends ps (map Some plan) → Extends (set ps u (Some (get_or plan u nowhere))) (map Some other) → Extends ps (map Some other)
Extends-unset [] plan other u e f = f
Extends-unset (None ∷ ps) [] other u e f = elim e [ ]
Extends-unset (Some p ∷ ps) [] other u e f = elim e [ ]
Extends-unset (None ∷ ps) (q ∷ qs) [] zero e f = elim f [ ]
Extends-unset (None ∷ ps) (q ∷ qs) [] (suc u) e f = elim f [ ]
Extends-unset (Some p ∷ ps) (q ∷ qs) [] zero e f = elim f [ ]
Extends-unset (Some p ∷ ps) (q ∷ qs) [] (suc u) e f = elim f [ ]
Extends-unset (None ∷ ps) (q ∷ qs) (r ∷ rs) zero e (same f) = free f
Extends-unset (None ∷ ps) (q ∷ qs) (r ∷ rs) (suc u) (free e) (free f) = free (Extends-unset ps qs rs u e f)
Extends-unset (Some p ∷ ps) (q ∷ qs) (r ∷ rs) zero (same e) f = f
Extends-unset (Some p ∷ ps) (q ∷ qs) (r ∷ rs) (suc u) (same e) (same f) = same (Extends-unset ps qs rs u e f)

-- a prefix that uses neither slot stays
Extends-swap : (a b : ℕ) (ps : Prefix) (plan : List Place) → ((s : ℕ) → member s (slots_in ps) ≡ true → (s < a) × (s < b)) → Extends ps (map Some plan) → Extends ps (map Some (swap_slots a b plan))
Extends-swap a b [] [] h e = done
Extends-swap a b [] (q ∷ qs) h e = elim e [ ]
Extends-swap a b (None ∷ ps) [] h e = elim e [ ]
Extends-swap a b (Some p ∷ ps) [] h e = elim e [ ]
Extends-swap a b (None ∷ ps) (q ∷ qs) h (free e) = free (Extends-swap a b ps qs h e)
Extends-swap a b (Some p ∷ ps) (q ∷ qs) h (same e) =
    let low = h q.slot (or_left (q.slot == q.slot) (member q.slot (slots_in ps)) (eq-eqb q.slot q.slot refl)) in
    let stays : swap a b q.slot ≡ q.slot = swap-other a b q.slot (λ m. omega arith) (λ m. omega arith) in
    let whole : q ≡ swap_place a b q = λ i. record { phase = q.phase; slot = sym stays i } in
    subst (λ w. Extends (Some q ∷ ps) (Some w ∷ map Some (swap_slots a b qs))) whole
    (same (Extends-swap a b ps qs (λ s m. h s (or_right (s == q.slot) (member s (slots_in ps)) m)) e))

-- a unit has no place in the prefix, or the plan's
free_or_placed : (ps : Prefix) (plan : List Place) (u : ℕ) → u < length plan → Extends ps (map Some plan) → (slice_get ps u ≡ Some None) ⊎ ((set ps u (Some (get_or plan u nowhere)) ≡ ps) × (member (get_or plan u nowhere).slot (slots_in ps) ≡ true))
free_or_placed [] [] u h e = absurd (omega arith)
free_or_placed [] (q ∷ qs) u h e = elim e [ ]
free_or_placed (r ∷ ps) [] u h e = absurd (omega arith)
free_or_placed (None ∷ ps) (q ∷ qs) zero h (free e) = inl refl
free_or_placed (Some p ∷ ps) (q ∷ qs) zero h (same e) = inr (refl, or_left (q.slot == q.slot) (member q.slot (slots_in ps)) (eq-eqb q.slot q.slot refl))
free_or_placed (None ∷ ps) (q ∷ qs) (suc u) h (free e) =
    elim (free_or_placed ps qs u (omega arith) e) [
      | inl none ↦ inl none
      | inr has ↦ inr (ap (λ w. None ∷ w) has.0, has.1)
    ]
free_or_placed (Some p ∷ ps) (q ∷ qs) (suc u) h (same e) =
    elim (free_or_placed ps qs u (omega arith) e) [
      | inl none ↦ inl none
      | inr has ↦ inr (ap (λ w. Some q ∷ w) has.0, or_right ((get_or qs u nowhere).slot == q.slot) (member (get_or qs u nowhere).slot (slots_in ps)) has.1)
    ]

pub step_next : (ps : Prefix) (plan : List Place) (u : ℕ) → NoGap ps → Extends ps (map Some plan) → u < length plan → (get_or plan u nowhere).slot ≤ used ps → Stepped ps (set ps u (Some (get_or plan u nowhere))) (get_or plan u nowhere).slot
step_next ps plan u d e within low =
    elim (free_or_placed ps plan u within e) [
      | inl none ↦ step_free ps u (get_or plan u nowhere) d none low
      | inr has ↦
          let inside = d.below (get_or plan u nowhere).slot has.1 in
          record { dense = subst NoGap (sym has.0) d; old = λ _. ap used has.0; new = λ at. absurd (omega arith) }
    ]

-- a place of a plan is within its ranges
pub phase_at : (loads : List Load) (plan : List Place) (u : ℕ) → u < length loads → length plan ≡ length loads → All (λ x. x.phase < x.period) (plan_items loads plan) → (get_or plan u nowhere).phase < (get_or loads u nobody).period
phase_at [] plan u h e all = absurd (omega arith)
phase_at (l ∷ ls) [] u h e all = absurd (omega arith)
phase_at (l ∷ ls) (p ∷ ps) zero h e all = All-head (λ x. x.phase < x.period) _ (plan_items ls ps) all
phase_at (l ∷ ls) (p ∷ ps) (suc u) h e all = phase_at ls ps u (omega arith) (omega arith) (All-tail (λ x. x.phase < x.period) _ (plan_items ls ps) all)

pub slot_at : (n : ℕ) (loads : List Load) (plan : List Place) (u : ℕ) → u < length loads → length plan ≡ length loads → All (λ x. x.slot < n) (plan_items loads plan) → (get_or plan u nowhere).slot < n
slot_at n [] plan u h e all = absurd (omega arith)
slot_at n (l ∷ ls) [] u h e all = absurd (omega arith)
slot_at n (l ∷ ls) (p ∷ ps) zero h e all = All-head (λ x. x.slot < n) _ (plan_items ls ps) all
slot_at n (l ∷ ls) (p ∷ ps) (suc u) h e all = slot_at n ls ps u (omega arith) (omega arith) (All-tail (λ x. x.slot < n) _ (plan_items ls ps) all)

pub swap-at : (a b : ℕ) (plan : List Place) (u : ℕ) → u < length plan → get_or (swap_slots a b plan) u nowhere ≡ swap_place a b (get_or plan u nowhere)
swap-at a b plan u h = get_or-map (swap_place a b) plan u nowhere nowhere h

pub IsInRange-swap : (loads : List Load) (n a b : ℕ) (plan : List Place) → a < n → b < n → IsInRange loads n plan → IsInRange loads n (swap_slots a b plan)
IsInRange-swap loads n a b plan h k r =
    let is = sym (swap-items a b loads plan) in
    record {
      whole = length-map plan (swap_place a b) ∙ r.whole;
      phases = subst (λ xs. All (λ (x : Item). x.phase < x.period) xs) is (All-map (λ x. x.phase < x.period) (swap_item a b) (plan_items loads plan) r.phases);
      slots = subst (λ xs. All (λ (x : Item). x.slot < n) xs) is
          (All-map (λ x. x.slot < n) (swap_item a b) (plan_items loads plan)
          (All-weaker (λ x. x.slot < n) (λ x. swap a b x.slot < n) (λ x low. swap-below a b x.slot n h k low) (plan_items loads plan) r.slots));
    }

pub renamed-low : (k u : ℕ) (order : List ℕ) (plan : List Place) → (get_or plan u nowhere).slot < k → renamed k (u ∷ order) plan ≡ renamed k order plan
renamed-low k u order plan low =
    cond-true _ (renamed k order plan) (renamed (suc k) order (swap_slots k (get_or plan u nowhere).slot plan)) (lt-ltb (get_or plan u nowhere).slot k low)

pub renamed-high : (k u : ℕ) (order : List ℕ) (plan : List Place) → k ≤ (get_or plan u nowhere).slot → renamed k (u ∷ order) plan ≡ renamed (suc k) order (swap_slots k (get_or plan u nowhere).slot plan)
renamed-high k u order plan high =
    cond-false _ (renamed k order plan) (renamed (suc k) order (swap_slots k (get_or plan u nowhere).slot plan)) (le-ltb (get_or plan u nowhere).slot k high)

IsRenamed-self : (plan : List Place) → IsRenamed plan plan
IsRenamed-self plan = record { name = λ s. s; apart = λ s t e. e; is = sym (map-id plan) }

IsRenamed-swap : (a b : ℕ) (plan other : List Place) → IsRenamed (swap_slots a b plan) other → IsRenamed plan other
IsRenamed-swap a b plan other r =
    record {
      name = λ s. r.name (swap a b s);
      apart = λ s t e. sym (swap-swap a b s) ∙ ap (swap a b) (r.apart (swap a b s) (swap a b t) e) ∙ swap-swap a b t;
      is = r.is ∙ map-map (λ p. record { phase = p.phase; slot = r.name p.slot }) (swap_place a b) plan;
    }

-- a plan that the children reach from a prefix, of equal cost
pub record Canon (loads : List Load) (n : ℕ) (ps : Prefix) (order : List ℕ) (plan other : List Place) : Type 0 where
  pub extends : Extends ps (map Some other)
  pub range : IsInRange loads n other
  pub costs : CostsAlike loads n other plan
  pub fits : Fits (plan_items loads plan) n → Fits (plan_items loads other) n
  pub names : IsRenamed plan other
  pub canonical : IsCanonical (line_by slots_alone loads n) ps order other

canon-step : (loads : List Load) (n : ℕ) (ps : Prefix) (u : ℕ) (order : List ℕ) (plan other : List Place) → u < length loads → Extends ps (map Some plan) → IsInRange loads n plan → (get_or plan u nowhere).slot ≤ used ps → Canon loads n (set ps u (Some (get_or plan u nowhere))) order plan other → Canon loads n ps (u ∷ order) plan other
canon-step loads n ps u order plan other within e r low c =
    let p = get_or plan u nowhere in
    let len = c.range.whole in
    let at : get_or other u nowhere ≡ p = Extends-get ps other u p (omega arith) c.extends in
    record {
      extends = Extends-unset ps plan other u e c.extends;
      range = c.range;
      costs = c.costs;
      fits = c.fits;
      names = c.names;
      canonical = subst (λ w. In w (children (line_by slots_alone loads n) ps u) × IsCanonical (line_by slots_alone loads n) (set ps u (Some w)) order other) (sym at)
          (In-children loads n ps u p (phase_at loads plan u within r.whole r.phases) low (slot_at n loads plan u within r.whole r.slots), c.canonical);
    }

canon-swap : (loads : List Load) (n : ℕ) (ps : Prefix) (order : List ℕ) (plan other : List Place) (a b : ℕ) → a < n → b < n → Canon loads n ps order (swap_slots a b plan) other → Canon loads n ps order plan other
canon-swap loads n ps order plan other a b h k c =
    record {
      extends = c.extends;
      range = c.range;
      costs = λ t. c.costs t ∙ ap (λ w. tick_cost w n t) (swap-items a b loads plan) ∙ swap-cost a b n t (plan_items loads plan) h k;
      fits = λ all. c.fits (λ t s low.
          let moved : payload (plan_items loads (swap_slots a b plan)) t s ≡ payload (plan_items loads plan) t (swap a b s) =
          ap (λ w. payload w t s) (swap-items a b loads plan) ∙ swap-payload a b t s (plan_items loads plan) in
          let most = all t (swap a b s) (swap-below a b s n h k low) in
          omega arith);
      names = IsRenamed-swap a b plan other c.names;
      canonical = c.canonical;
    }

pub canon : (loads : List Load) (n : ℕ) (ps : Prefix) (order : List ℕ) (plan : List Place) → All (λ u. u < length loads) order → Extends ps (map Some plan) → NoGap ps → IsInRange loads n plan → Canon loads n ps order plan (renamed (used ps) order plan)
canon loads n ps [] plan all e d r =
    record { extends = e; range = r; costs = λ t. refl; fits = λ h. h; names = IsRenamed-self plan; canonical = tt }
canon loads n ps (u ∷ order) plan all e d r =
    let p = get_or plan u nowhere in
    let k = used ps in
    let s = p.slot in
    let within = All-head (λ w. w < length loads) u order all in
    let later = All-tail (λ w. w < length loads) u order all in
    let len = r.whole in
    let bound = slot_at n loads plan u within r.whole r.slots in
    elim (cases_lt s k) [
      | inl low ↦
          let step = step_next ps plan u d e (omega arith) (omega arith) in
          let c = canon loads n (set ps u (Some p)) order plan later (Extends-set ps plan u e) step.dense r in
          let same_count = ap (λ w. renamed w order plan) (step.old low) ∙ sym (renamed-low k u order plan low) in
          subst (λ w. Canon loads n ps (u ∷ order) plan w) same_count
          (canon-step loads n ps u order plan (renamed (used (set ps u (Some p))) order plan) within e r (omega arith) c)
      | inr high ↦
          let next = swap_slots k s plan in
          let q = get_or next u nowhere in
          let len_next : length next ≡ length plan = length-map plan (swap_place k s) in
          let at : q ≡ swap_place k s p = swap-at k s plan u (omega arith) in
          let slot : q.slot ≡ k = ap (λ (w : Place). w.slot) at ∙ swap-second k s in
          let f = Extends-swap k s ps plan (λ i m. let b = d.below i m in let both : (i < k) × (i < s) = (b, omega arith) in both) e in
          let g = IsInRange-swap loads n k s plan (omega arith) bound r in
          let step = step_next ps next u d f (omega arith) (omega arith) in
          let c = canon loads n (set ps u (Some q)) order next later (Extends-set ps next u f) step.dense g in
          let one_more = ap (λ w. renamed w order next) (step.new slot) ∙ sym (renamed-high k u order plan high) in
          subst (λ w. Canon loads n ps (u ∷ order) plan w) one_more
          (canon-swap loads n ps (u ∷ order) plan (renamed (used (set ps u (Some q))) order next) k s (omega arith) bound
          (canon-step loads n ps u order next (renamed (used (set ps u (Some q))) order next) within f g (omega arith) c))
    ]

-- from the empty prefix on
pub canon-all : (loads : List Load) (n : ℕ) (order : List ℕ) (plan : List Place) → All (λ u. u < length loads) order → IsInRange loads n plan → Canon loads n (no_places loads) order plan (renamed 0 order plan)
canon-all loads n order plan all r =
    subst (λ w. Canon loads n (no_places loads) order plan (renamed w order plan)) (used-none loads)
    (canon loads n (no_places loads) order plan all (Extends-none loads plan r.whole) (NoGap-none loads) r)

-- a legal plan stays legal
pub canon-legal : (loads : List Load) (n : ℕ) (ps : Prefix) (order : List ℕ) (plan other : List Place) → Canon loads n ps order plan other → IsLegal loads n plan → IsLegal loads n other
canon-legal loads n ps order plan other c legal =
    record { whole = c.range.whole; phases = c.range.phases; slots = c.range.slots; fits = c.fits legal.fits }
