-- What a plan costs that is sent earlier.
use Rattle.std.proofs.Common.{◌≡◌, ℕ, zero, suc, ◌+◌, ◌-◌, ◌*◌, ◌%◌, ◌<◌, ◌≤◌, ◌==◌, ◌&&◌, ◌||◌, cond, List, [], ◌∷◌, map, length, get_or, All, Some, refl, sym, ap, ◌∙◌, subst, arith, inl, inr, mul-suc, add-one}
use Rattle.std.specs.List.{list_any}
use Rattle.std.proofs.lemmas.Bool.{cases_eq, eq-eqb, ne_eqb}
use Rattle.std.proofs.lemmas.List.Elements.{All-head, All-tail, All-cons, All-nil}
use Rattle.std.proofs.lemmas.Nat.{mod_below}
use Rattle.std.proofs.Math.Nat.{add-mod-mod, mod-add-mod, add-mod_right, mod-eq_of_lt, add-mul-mod_self_right}
use Rattle.ec_hyper.specs.Lcm.{lcm_of}
use Rattle.ec_hyper.proofs.LcmLemmas.{lcm_of-pos}
use Rattle.ec_units.specs.declared.slave.Place.{Place}
use Rattle.ec_units.specs.declared.unit.Load.{Load}
use Rattle.ec_units.specs.Load.{periods_of}
use Rattle.ec_loads.specs.declared.item.Item.{Item}
use Rattle.ec_loads.specs.Cost.{item, plan_items, is_sent, group, same_group, has_group, payload, slot_cost, tick_cost, added}
use Rattle.ec_loads.specs.Held.{AreLoads}
use Rattle.ec_loads.specs.Legal.{Fits}
use Rattle.ec_loads.specs.Search.{nobody, nowhere}
use Rattle.ec_loads.proofs.CostLemmas.{sum_below-agree, tick_cost-mod}
use Rattle.ec_loads.proofs.ItemLemmas.{DivideAll-loads, positive_loads}
use Rattle.ec_loads.proofs.PayloadLemmas.{payload-nil, payload-cons}
use Rattle.ec_symmetry.specs.Reached.{IsInRange, CostsWithin}
use Rattle.ec_symmetry.specs.Turned.{earlier, earlier_place, earlier_plan}

abbrev earlier_item : ℕ → Item → Item
earlier_item d x = record { bytes = x.bytes; period = x.period; phase = earlier d x.period x.phase; slot = x.slot }

abbrev pub HavePhases : List Item → Type 0
HavePhases xs = All (λ x. x.phase < x.period) xs

-- what is sent earlier is later again
later-again : (d p f : ℕ) → f < p → (earlier d p f + d) % p ≡ f
later-again d p f h =
    let low : d % p < p = mod_below d p (omega arith) in
    let whole : f + (p - d % p) + d % p ≡ f + p = omega arith in
    mod-add-mod (f + (p - d % p)) p d ∙ sym (add-mod-mod (f + (p - d % p)) d p) ∙ ap (λ w. w % p) whole ∙ add-mod_right f p ∙ mod-eq_of_lt h

-- and the other way round
earlier-of : (d p t : ℕ) → 0 < p → earlier d p ((t + d) % p) ≡ t % p
earlier-of d p t h =
    let low : d % p < p = mod_below d p h in
    let turned : t + d + (p - d % p) ≡ t + (p - d % p) + d = omega arith in
    let whole : t + (p - d % p) + d % p ≡ t + p = omega arith in
    mod-add-mod (t + d) p (p - d % p) ∙ ap (λ w. w % p) turned ∙ sym (add-mod-mod (t + (p - d % p)) d p) ∙ ap (λ w. w % p) whole ∙ add-mod_right t p

-- two tests that hold together are one
same_test : (a b c d : ℕ) → (a ≡ b → c ≡ d) → (c ≡ d → a ≡ b) → (a == b) ≡ (c == d)
same_test a b c d f g =
    elim (cases_eq a b) [
      | inl is ↦ eq-eqb a b is ∙ sym (eq-eqb c d (f is))
      | inr apart ↦ ne_eqb a b apart ∙ sym (ne_eqb c d (λ e. apart (g e)))
    ]

sent-test : (d t p f : ℕ) → f < p → (t % p == earlier d p f) ≡ ((t + d) % p == f)
sent-test d t p f h =
    same_test (t % p) (earlier d p f) ((t + d) % p) f
    (λ e. sym (mod-add-mod t p d) ∙ ap (λ w. (w + d) % p) e ∙ later-again d p f h)
    (λ e. sym (earlier-of d p t (omega arith)) ∙ ap (earlier d p) e)

phase-test : (d p f g : ℕ) → f < p → g < p → (earlier d p f == earlier d p g) ≡ (f == g)
phase-test d p f g h k =
    same_test (earlier d p f) (earlier d p g) f g
    (λ e. sym (later-again d p f h) ∙ ap (λ w. (w + d) % p) e ∙ later-again d p g k)
    (λ e. ap (earlier d p) e)

sent-earlier : (d t s : ℕ) (x : Item) → x.phase < x.period → is_sent t s (earlier_item d x) ≡ is_sent (t + d) s x
sent-earlier d t s x h = ap (λ w. w && (x.slot == s)) (sent-test d t x.period x.phase h)

group-earlier : (d : ℕ) (x y : Item) → x.phase < x.period → y.phase < y.period → same_group (group (earlier_item d x)) (group (earlier_item d y)) ≡ same_group (group x) (group y)
group-earlier d x y h k =
    elim (cases_eq x.period y.period) [
      | inl is ↦
          ap (λ w. (x.period == y.period) && w)
          (ap (λ w. earlier d x.period x.phase == earlier d w y.phase) (sym is) ∙ phase-test d x.period x.phase y.phase h (omega arith))
      | inr apart ↦
          ap (λ w. w && (earlier d x.period x.phase == earlier d y.period y.phase)) (ne_eqb x.period y.period apart)
          ∙ sym (ap (λ w. w && (x.phase == y.phase)) (ne_eqb x.period y.period apart))
    ]

has_group-earlier : (d t s : ℕ) (x : Item) (xs : List Item) → x.phase < x.period → HavePhases xs → has_group (group (earlier_item d x)) t s (map (earlier_item d) xs) ≡ has_group (group x) (t + d) s xs
has_group-earlier d t s x [] h all = refl
has_group-earlier d t s x (y ∷ ys) h all =
    let k = All-head (λ z. z.phase < z.period) y ys all in
    let rest = has_group-earlier d t s x ys h (All-tail (λ z. z.phase < z.period) y ys all) in
    λ i. (sent-earlier d t s y k i && group-earlier d x y h k i) || rest i

busy-earlier : (d t s : ℕ) (xs : List Item) → HavePhases xs → list_any (is_sent t s) (map (earlier_item d) xs) ≡ list_any (is_sent (t + d) s) xs
busy-earlier d t s [] all = refl
busy-earlier d t s (y ∷ ys) all =
    let k = All-head (λ z. z.phase < z.period) y ys all in
    let rest = busy-earlier d t s ys (All-tail (λ z. z.phase < z.period) y ys all) in
    λ i. sent-earlier d t s y k i || rest i

pub payload-earlier : (d t s : ℕ) (xs : List Item) → HavePhases xs → payload (map (earlier_item d) xs) t s ≡ payload xs (t + d) s
payload-earlier d t s [] all = payload-nil t s ∙ sym (payload-nil (t + d) s)
payload-earlier d t s (x ∷ xs) all =
    let h = All-head (λ z. z.phase < z.period) x xs all in
    let later = All-tail (λ z. z.phase < z.period) x xs all in
    let rest = payload-earlier d t s xs later in
    let first : added t s (earlier_item d x) (map (earlier_item d) xs) ≡ added (t + d) s x xs =
    λ i. cond (sent-earlier d t s x h i) (cond (has_group-earlier d t s x xs h later i) 0 12 + x.bytes) 0 in
    payload-cons (earlier_item d x) (map (earlier_item d) xs) t s ∙ (λ i. first i + rest i) ∙ sym (payload-cons x xs (t + d) s)

slot_cost-earlier : (d t s : ℕ) (xs : List Item) → HavePhases xs → slot_cost (map (earlier_item d) xs) t s ≡ slot_cost xs (t + d) s
slot_cost-earlier d t s xs all = rw (busy-earlier d t s xs all, payload-earlier d t s xs all) refl

pub tick_cost-earlier : (d n t : ℕ) (xs : List Item) → HavePhases xs → tick_cost (map (earlier_item d) xs) n t ≡ tick_cost xs n (t + d)
unfolding tick_cost
tick_cost-earlier d n t xs all = sum_below-agree (slot_cost (map (earlier_item d) xs) t) (slot_cost xs (t + d)) n (λ s _. slot_cost-earlier d t s xs all)

earlier-items : (d : ℕ) (loads : List Load) (plan : List Place) → plan_items loads (earlier_plan d loads plan) ≡ map (earlier_item d) (plan_items loads plan)
earlier-items d [] plan = refl
earlier-items d (l ∷ ls) [] = refl
earlier-items d (l ∷ ls) (p ∷ ps) = ap (λ w. item l (earlier_place d l p) ∷ w) (earlier-items d ls ps)

earlier-whole : (d : ℕ) (loads : List Load) (plan : List Place) → length plan ≡ length loads → length (earlier_plan d loads plan) ≡ length loads
earlier-whole d [] plan e = refl
earlier-whole d (l ∷ ls) [] e = absurd (omega arith)
earlier-whole d (l ∷ ls) (p ∷ ps) e = ap suc (earlier-whole d ls ps (omega arith))

earlier-phases : (d : ℕ) (xs : List Item) → HavePhases xs → HavePhases (map (earlier_item d) xs)
earlier-phases d [] all = All-nil _
earlier-phases d (x ∷ xs) all =
    let h = All-head (λ z. z.phase < z.period) x xs all in
    All-cons (λ z. z.phase < z.period) (earlier_item d x) (map (earlier_item d) xs) (mod_below _ x.period (omega arith))
    (earlier-phases d xs (All-tail (λ z. z.phase < z.period) x xs all))

earlier-slots : (d n : ℕ) (xs : List Item) → All (λ z. z.slot < n) xs → All (λ z. z.slot < n) (map (earlier_item d) xs)
earlier-slots d n [] all = All-nil _
earlier-slots d n (x ∷ xs) all =
    All-cons (λ z. z.slot < n) (earlier_item d x) (map (earlier_item d) xs) (All-head (λ z. z.slot < n) x xs all)
    (earlier-slots d n xs (All-tail (λ z. z.slot < n) x xs all))

-- it costs in each tick what the plan costs d ticks later
pub earlier-cost : (d : ℕ) (loads : List Load) (n t : ℕ) (plan : List Place) → HavePhases (plan_items loads plan) → tick_cost (plan_items loads (earlier_plan d loads plan)) n t ≡ tick_cost (plan_items loads plan) n (t + d)
earlier-cost d loads n t plan all = ap (λ w. tick_cost w n t) (earlier-items d loads plan) ∙ tick_cost-earlier d n t (plan_items loads plan) all

pub earlier-costs : (d : ℕ) (loads : List Load) (n : ℕ) (plan : List Place) → HavePhases (plan_items loads plan) → CostsWithin loads n (earlier_plan d loads plan) plan
earlier-costs d loads n plan all t = (t + d, earlier-cost d loads n t plan all)

-- by whole hyperperiods a tick comes again
again : (d h t : ℕ) → 0 < h → (t + d * (h - 1) + d) % h ≡ t % h
again d h t pos =
    let less : h - 1 + 1 ≡ h = omega arith in
    let turns : d * (h - 1) + d ≡ d * h = omega (arith, mul-suc d (h - 1), ap (λ w. d * w) (sym (add-one (h - 1)) ∙ less)) in
    let whole : t + d * (h - 1) + d ≡ t + d * h = omega (arith, turns) in
    ap (λ w. w % h) whole ∙ add-mul-mod_self_right t d h

-- so each of its ticks comes again in the plan that is sent earlier
pub costs-back : (d : ℕ) (loads : List Load) (n : ℕ) (plan : List Place) → AreLoads loads → HavePhases (plan_items loads plan) → CostsWithin loads n plan (earlier_plan d loads plan)
costs-back d loads n plan within all t =
    let h = lcm_of (periods_of loads) in
    let xs = plan_items loads plan in
    let divides = DivideAll-loads loads (map Some plan) h within refl in
    let i = t + d * (h - 1) in
    (i, sym (earlier-cost d loads n i plan all ∙ sym (tick_cost-mod xs n h (i + d) divides) ∙ ap (tick_cost xs n) (again d h t (lcm_of-pos (periods_of loads) (positive_loads loads within))) ∙ tick_cost-mod xs n h t divides))

-- and stays within its ranges
pub earlier-range : (d : ℕ) (loads : List Load) (n : ℕ) (plan : List Place) → IsInRange loads n plan → IsInRange loads n (earlier_plan d loads plan)
earlier-range d loads n plan r =
    let is = sym (earlier-items d loads plan) in
    record {
      whole = earlier-whole d loads plan r.whole;
      phases = subst HavePhases is (earlier-phases d (plan_items loads plan) r.phases);
      slots = subst (λ xs. All (λ (z : Item). z.slot < n) xs) is (earlier-slots d n (plan_items loads plan) r.slots);
    }

-- what fits still fits
pub earlier-fits : (d : ℕ) (loads : List Load) (n : ℕ) (plan : List Place) → HavePhases (plan_items loads plan) → Fits (plan_items loads plan) n → Fits (plan_items loads (earlier_plan d loads plan)) n
earlier-fits d loads n plan all fits t s low =
    subst (λ w. w ≤ 1498) (sym (ap (λ w. payload w t s) (earlier-items d loads plan) ∙ payload-earlier d t s (plan_items loads plan) all)) (fits (t + d) s low)

pub earlier-at : (d : ℕ) (loads : List Load) (plan : List Place) (u : ℕ) → u < length loads → length plan ≡ length loads → get_or (earlier_plan d loads plan) u nowhere ≡ earlier_place d (get_or loads u nobody) (get_or plan u nowhere)
earlier-at d [] plan u h e = absurd (omega arith)
earlier-at d (l ∷ ls) [] u h e = absurd (omega arith)
earlier-at d (l ∷ ls) (p ∷ ps) zero h e = refl
earlier-at d (l ∷ ls) (p ∷ ps) (suc u) h e = earlier-at d ls ps u (omega arith) (omega arith)
