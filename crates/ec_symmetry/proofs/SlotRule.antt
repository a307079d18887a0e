-- A plan where the next unit's slot is above the first free one has a better one: the two slots exchange their names. And what the prefix of a plan holds.
use Rattle.std.proofs.Common.{◌≡◌, ℕ, zero, suc, ◌<◌, ◌≤◌, ◌==◌, true, List, [], ◌∷◌, map, length, set, get_or, All, Some, None, refl, sym, ap, ◌∙◌, subst, arith, inl, inr}
use Rattle.std.proofs.lemmas.Bool.{cases_eq, cases_lt, eq-eqb, or_left, or_right}
use Rattle.std.proofs.lemmas.List.{get_or-set_same, get_or-set_other, length-set, length-map}
use Rattle.std.proofs.lemmas.List.Elements.{All-head, All-tail, All-get_or}
use Rattle.ec_units.specs.declared.slave.Place.{Place}
use Rattle.ec_units.specs.declared.unit.Load.{Load}
use Rattle.ec_loads.specs.Cost.{plan_items, tick_cost, payload}
use Rattle.ec_loads.specs.Held.{no_places}
use Rattle.ec_loads.specs.Legal.{IsLegal}
use Rattle.ec_loads.specs.Search.{Prefix, Extends, slots_in, used, nowhere}
use Rattle.ec_symmetry.specs.Reached.{In, here, there}
use Rattle.ec_symmetry.specs.Renamed.{swap, swap_place, swap_slots}
use Rattle.ec_symmetry.proofs.CanonLemmas.{Extends-set, Extends-none, IsInRange-swap, slot_at, step_next, swap-at}
use Rattle.ec_symmetry.proofs.InLemmas.{In-cases}
use Rattle.ec_symmetry.proofs.SwapLemmas.{swap-second, swap-other, swap-below, swap-items, swap-payload, swap-cost}
use Rattle.ec_symmetry.proofs.UsedLemmas.{member, NoGap, NoGap-none}
use Rattle.ec_symmetry.proofs.WalkLemmas.{prefix_at, Rule, Kept, Improves, In-below}

-- the slot is in use, or the first that isn't
abbrev pub KeepsSlots : List Load → Rule
KeepsSlots loads before u plan = (get_or plan u nowhere).slot ≤ used (prefix_at loads before plan)

pub prefix-length : (loads : List Load) (before : List ℕ) (plan : List Place) → length (prefix_at loads before plan) ≡ length loads
prefix-length loads [] plan = length-map loads (λ _. None)
prefix-length loads (u ∷ before) plan = length-set (prefix_at loads before plan) u (Some (get_or plan u nowhere)) ∙ prefix-length loads before plan

-- the prefix has the plan's places of its units
pub prefix-at : (loads : List Load) (before : List ℕ) (plan : List Place) (w : ℕ) → All (λ v. v < length loads) before → length (prefix_at loads before plan) ≡ length loads → In w before → get_or (prefix_at loads before plan) w None ≡ Some (get_or plan w nowhere)
prefix-at loads [] plan w low long m = elim m [ ]
prefix-at loads (u ∷ before) plan w low long m =
    let ps = prefix_at loads before plan in
    let within = All-head (λ v. v < length loads) u before low in
    let same = length-set ps u (Some (get_or plan u nowhere)) in
    elim (cases_eq w u) [
      | inl is ↦
          subst (λ x. get_or (set ps u (Some (get_or plan u nowhere))) x None ≡ Some (get_or plan x nowhere)) (sym is)
          (get_or-set_same ps u (Some (get_or plan u nowhere)) None (omega arith))
      | inr apart ↦
          elim (In-cases m) [
            | inl is ↦ absurd (apart is)
            | inr later ↦
                get_or-set_other ps u w (Some (get_or plan u nowhere)) None apart
                ∙ prefix-at loads before plan w (All-tail (λ v. v < length loads) u before low) (omega arith) later
          ]
    ]

pub none-get : (loads : List Load) (w : ℕ) (q : Place) → get_or (no_places loads) w None ≡ Some q → ⊥
none-get [] w q e = cc
none-get (l ∷ ls) zero q e = cc
none-get (l ∷ ls) (suc w) q e = none-get ls w q e

-- and what has a place in it is one of them
pub prefix-of : (loads : List Load) (before : List ℕ) (plan : List Place) (w : ℕ) (q : Place) → All (λ v. v < length loads) before → get_or (prefix_at loads before plan) w None ≡ Some q → In w before × (q ≡ get_or plan w nowhere)
prefix-of loads [] plan w q low e = absurd (none-get loads w q e)
prefix-of loads (u ∷ before) plan w q low e =
    let ps = prefix_at loads before plan in
    let within = All-head (λ v. v < length loads) u before low in
    let long = prefix-length loads before plan in
    elim (cases_eq w u) [
      | inl is ↦
          let same : Some (get_or plan w nowhere) ≡ Some q =
          sym (subst (λ x. get_or (set ps u (Some (get_or plan u nowhere))) x None ≡ Some (get_or plan x nowhere)) (sym is)
          (get_or-set_same ps u (Some (get_or plan u nowhere)) None (omega arith))) ∙ e in
          (subst (λ x. In x (u ∷ before)) (sym is) here, let back : q ≡ get_or plan w nowhere = cc in back)
      | inr apart ↦
          let rest = prefix-of loads before plan w q (All-tail (λ v. v < length loads) u before low) (sym (get_or-set_other ps u w (Some (get_or plan u nowhere)) None apart) ∙ e) in
          (there rest.0, rest.1)
    ]

-- a prefix of a plan uses the first slots, and has as many places as there are loads
record Dense (loads : List Load) (before : List ℕ) (plan : List Place) : Type 0 where
  extends : Extends (prefix_at loads before plan) (map Some plan)
  dense : NoGap (prefix_at loads before plan)

dense : (loads : List Load) (before : List ℕ) (plan : List Place) → length plan ≡ length loads → All (λ w. w < length loads) before → Kept (KeepsSlots loads) before plan → Dense loads before plan
dense loads [] plan whole low kept = record { extends = Extends-none loads plan whole; dense = NoGap-none loads }
dense loads (u ∷ before) plan whole low kept =
    let d = dense loads before plan whole (All-tail (λ w. w < length loads) u before low) kept.1 in
    let within = All-head (λ w. w < length loads) u before low in
    record {
      extends = Extends-set (prefix_at loads before plan) plan u d.extends;
      dense = (step_next (prefix_at loads before plan) plan u d.dense d.extends (omega arith) kept.0).dense;
    }

pub member-at : (ps : Prefix) (w : ℕ) (p : Place) → get_or ps w None ≡ Some p → member p.slot (slots_in ps) ≡ true
member-at [] w p e = cc
member-at (None ∷ ps) zero p e = cc
member-at (Some q ∷ ps) zero p e =
    let same : q ≡ p = cc in
    or_left (p.slot == q.slot) (member p.slot (slots_in ps)) (eq-eqb p.slot q.slot (ap (λ (x : Place). x.slot) (sym same)))
member-at (None ∷ ps) (suc w) p e = member-at ps w p e
member-at (Some q ∷ ps) (suc w) p e = or_right (p.slot == q.slot) (member p.slot (slots_in ps)) (member-at ps w p e)

-- the units before it are in slots below the first free one
below-used : (loads : List Load) (before : List ℕ) (plan : List Place) (w : ℕ) → All (λ v. v < length loads) before → Dense loads before plan → In w before → (get_or plan w nowhere).slot < used (prefix_at loads before plan)
below-used loads before plan w low d m =
    d.dense.below (get_or plan w nowhere).slot
    (member-at (prefix_at loads before plan) w (get_or plan w nowhere) (prefix-at loads before plan w low (prefix-length loads before plan) m))

swap-legal : (loads : List Load) (n a b : ℕ) (plan : List Place) → a < n → b < n → IsLegal loads n plan → IsLegal loads n (swap_slots a b plan)
swap-legal loads n a b plan h k legal =
    let r = IsInRange-swap loads n a b plan h k (record { whole = legal.whole; phases = legal.phases; slots = legal.slots }) in
    record {
      whole = r.whole;
      phases = r.phases;
      slots = r.slots;
      fits = λ t s low. subst (λ w. w ≤ 1498) (sym (ap (λ w. payload w t s) (swap-items a b loads plan) ∙ swap-payload a b t s (plan_items loads plan))) (legal.fits t (swap a b s) (swap-below a b s n h k low));
    }

pub slots-improve : (loads : List Load) (n : ℕ) → Improves loads n (KeepsSlots loads)
slots-improve loads n before u plan legal units kept =
    let within = All-head (λ w. w < length loads) u before units.below in
    let low = All-tail (λ w. w < length loads) u before units.below in
    let d = dense loads before plan legal.whole low kept in
    let k = used (prefix_at loads before plan) in
    let s = (get_or plan u nowhere).slot in
    let len = legal.whole in
    elim (cases_lt k s) [
      | inr keeps ↦ inl (omega arith)
      | inl breaks ↦
          let bound = slot_at n loads plan u within legal.whole legal.slots in
          let free : k < n = omega arith in
          let at : get_or (swap_slots k s plan) u nowhere ≡ swap_place k s (get_or plan u nowhere) = swap-at k s plan u (omega arith) in
          let slot : (get_or (swap_slots k s plan) u nowhere).slot ≡ k = ap (λ (q : Place). q.slot) at ∙ swap-second k s in
          let phase : (get_or (swap_slots k s plan) u nowhere).phase ≡ (get_or plan u nowhere).phase = ap (λ (q : Place). q.phase) at in
          inr (record {
            other = swap_slots k s plan;
            stands = record {
              legal = swap-legal loads n k s plan free bound legal;
              costs = λ t. (t, ap (λ w. tick_cost w n t) (swap-items k s loads plan) ∙ swap-cost k s n t (plan_items loads plan) free bound);
              slot = λ all. let none : s ≡ 0 = All-get_or (λ (q : Place). q.slot ≡ 0) plan u nowhere (omega arith) all in absurd (omega (arith, breaks, none));
            };
            less = inr (
              (λ w m.
                  let inside = below-used loads before plan w low d m in
                  let has = In-below (length loads) before w low m in
                  let stays : swap k s (get_or plan w nowhere).slot ≡ (get_or plan w nowhere).slot = swap-other k s (get_or plan w nowhere).slot (λ e. omega arith) (λ e. omega arith) in
                  swap-at k s plan w (omega arith) ∙ (λ i. let q : Place = record { phase = (get_or plan w nowhere).phase; slot = stays i } in q)),
              inr (phase, inl (omega arith, refl)),
            );
          })
    ]
