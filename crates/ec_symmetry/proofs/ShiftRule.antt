-- A plan where the phase of the next unit isn't below the greatest common divisor of its period and what the periods before it have in common has a better
-- one: it is sent earlier by a multiple of the periods before it, which leaves the units before it where they are.
use Rattle.std.proofs.Common.{◌≡◌, ℕ, zero, suc, ◌+◌, ◌-◌, ◌*◌, ◌%◌, ◌<◌, ◌≤◌, List, [], ◌∷◌, length, get_or, All, Some, None, refl, ap, ◌∙◌, arith, inl, inr}
use Prim.Native.Nat.{◌∣◌}
use native.Mathlib.Nat.{dvd_trans, dvd-mul_left, mod-eq-zero_of_dvd}
use Rattle.std.proofs.lemmas.Bool.{cases_lt}
use Rattle.std.proofs.lemmas.List.Elements.{All-head, All-tail, All-cons, All-nil, All-get_or}
use Rattle.std.proofs.Math.Nat.{add-mod_right, mod-eq_of_lt}
use Rattle.ec_hyper.specs.Lcm.{lcm_of}
use Rattle.ec_hyper.proofs.LcmLemmas.{lcm_of-is}
use Rattle.ec_units.specs.declared.slave.Place.{Place}
use Rattle.ec_units.specs.declared.unit.Load.{Load}
use Rattle.ec_loads.specs.Held.{AreLoads}
use Rattle.ec_loads.specs.Legal.{IsLegal}
use Rattle.ec_loads.specs.Rooms.{IsInFirstSlot}
use Rattle.ec_loads.specs.Search.{Prefix, nobody, nowhere}
use Rattle.ec_loads.specs.Strong.{gcd, placed_periods, strong_phases}
use Rattle.ec_symmetry.specs.Reached.{In}
use Rattle.ec_symmetry.specs.Turned.{earlier, earlier_place, earlier_plan}
use Rattle.ec_symmetry.proofs.CanonLemmas.{phase_at}
use Rattle.ec_symmetry.proofs.GcdLemmas.{gcd-reached, gcd-range}
use Rattle.ec_symmetry.proofs.ShiftLemmas.{earlier-costs, earlier-range, earlier-fits, earlier-at}
use Rattle.ec_symmetry.proofs.SlotRule.{prefix-at, prefix-length}
use Rattle.ec_symmetry.proofs.WalkLemmas.{prefix_at, Rule, Agree, Improves, In-below}

abbrev pub period_at : List Load → ℕ → ℕ
period_at loads u = (get_or loads u nobody).period

-- the phase of the next unit is one of those that it tries
abbrev pub KeepsShift : List Load → Rule
KeepsShift loads before u plan = (get_or plan u nowhere).phase < strong_phases loads (prefix_at loads before plan) (period_at loads u)

pub period-pos : (loads : List Load) (u : ℕ) → u < length loads → AreLoads loads → 0 < period_at loads u
period-pos loads u h all = (All-get_or (λ (x : Load). (1 ≤ x.period) × (x.period ≤ 60) × (x.bytes ≤ 1486)) loads u nobody h all).0

-- the periods of the units with a place are above 0
pub placed-pos : (loads : List Load) (ps : Prefix) → AreLoads loads → All (λ p. 0 < p) (placed_periods loads ps)
placed-pos [] ps all = All-nil _
placed-pos (l ∷ ls) [] all = All-nil _
placed-pos (l ∷ ls) (None ∷ ps) all = placed-pos ls ps (All-tail (λ x. (1 ≤ x.period) × (x.period ≤ 60) × (x.bytes ≤ 1486)) l ls all)
placed-pos (l ∷ ls) (Some p ∷ ps) all =
    All-cons (λ p. 0 < p) l.period (placed_periods ls ps) (All-head (λ x. (1 ≤ x.period) × (x.period ≤ 60) × (x.bytes ≤ 1486)) l ls all).0
    (placed-pos ls ps (All-tail (λ x. (1 ≤ x.period) × (x.period ≤ 60) × (x.bytes ≤ 1486)) l ls all))

-- what holds of them holds of the period of each
pub placed-at : (P : ℕ → Type 0) (loads : List Load) (ps : Prefix) (w : ℕ) (p : Place) → w < length loads → get_or ps w None ≡ Some p → All P (placed_periods loads ps) → P (period_at loads w)
placed-at P [] ps w p h e all = absurd (omega arith)
placed-at P (l ∷ ls) [] w p h e all = cc
placed-at P (l ∷ ls) (None ∷ ps) zero p h e all = cc
placed-at P (l ∷ ls) (Some q ∷ ps) zero p h e all = All-head P l.period (placed_periods ls ps) all
placed-at P (l ∷ ls) (None ∷ ps) (suc w) p h e all = placed-at P ls ps w p (omega arith) e all
placed-at P (l ∷ ls) (Some q ∷ ps) (suc w) p h e all = placed-at P ls ps w p (omega arith) e (All-tail P l.period (placed_periods ls ps) all)

-- the least common multiple of what has a place
abbrev hyper_at : List Load → List ℕ → List Place → ℕ
hyper_at loads before plan = lcm_of (placed_periods loads (prefix_at loads before plan))

-- a multiple of it is one of the period of each unit before
multiple-at : (loads : List Load) → AreLoads loads → (before : List ℕ) (plan : List Place) (k w : ℕ) → All (λ v. v < length loads) before → In w before → period_at loads w ∣ k * hyper_at loads before plan
multiple-at loads loads_are before plan k w low m =
    let ps = prefix_at loads before plan in
    let h = hyper_at loads before plan in
    dvd_trans (period_at loads w)
    (placed-at (λ p. p ∣ h) loads ps w (get_or plan w nowhere) (In-below (length loads) before w low m)
    (prefix-at loads before plan w low (prefix-length loads before plan) m)
    (lcm_of-is (placed_periods loads ps) (placed-pos loads ps loads_are)).multiple)
    (dvd-mul_left h k)

-- by a multiple of its period no unit moves
earlier-stays : (d p f : ℕ) → f < p → p ∣ d → earlier d p f ≡ f
earlier-stays d p f h divides =
    let none : d % p ≡ 0 = mod-eq-zero_of_dvd p divides in
    let whole : f + (p - d % p) ≡ f + p = omega arith in
    ap (λ w. w % p) whole ∙ add-mod_right f p ∙ mod-eq_of_lt h

earlier-less : (d p f g : ℕ) → f < p → g ≤ f → d % p ≡ g → earlier d p f ≡ f - g
earlier-less d p f g h low is =
    let whole : f + (p - d % p) ≡ (f - g) + p = omega arith in
    let small : f - g < p = omega arith in
    ap (λ w. w % p) whole ∙ add-mod_right (f - g) p ∙ mod-eq_of_lt small

earlier-agrees : (d : ℕ) (loads : List Load) (plan : List Place) (before : List ℕ) (n : ℕ) → IsLegal loads n plan → All (λ v. v < length loads) before → ((w : ℕ) → In w before → period_at loads w ∣ d) → Agree before (earlier_plan d loads plan) plan
earlier-agrees d loads plan before n legal low divides w m =
    let within = In-below (length loads) before w low m in
    let same = earlier-stays d (period_at loads w) (get_or plan w nowhere).phase (phase_at loads plan w within legal.whole legal.phases) (divides w m) in
    earlier-at d loads plan w within legal.whole ∙ (λ i. let q : Place = record { phase = same i; slot = (get_or plan w nowhere).slot } in q)

earlier-legal : (d : ℕ) (loads : List Load) (n : ℕ) (plan : List Place) → IsLegal loads n plan → IsLegal loads n (earlier_plan d loads plan)
earlier-legal d loads n plan legal =
    let r = earlier-range d loads n plan (record { whole = legal.whole; phases = legal.phases; slots = legal.slots }) in
    record { whole = r.whole; phases = r.phases; slots = r.slots; fits = earlier-fits d loads n plan legal.phases legal.fits }

earlier-slot : (d : ℕ) (loads : List Load) (plan : List Place) → IsInFirstSlot plan → IsInFirstSlot (earlier_plan d loads plan)
earlier-slot d [] plan all = All-nil _
earlier-slot d (l ∷ ls) [] all = All-nil _
earlier-slot d (l ∷ ls) (p ∷ ps) all =
    All-cons (λ q. q.slot ≡ 0) (earlier_place d l p) (earlier_plan d ls ps) (All-head (λ q. q.slot ≡ 0) p ps all) (earlier-slot d ls ps (All-tail (λ q. q.slot ≡ 0) p ps all))

pub shift-improves : (loads : List Load) (n : ℕ) → AreLoads loads → Improves loads n (KeepsShift loads)
shift-improves loads n loads_are before u plan legal units kept =
    let within = All-head (λ w. w < length loads) u before units.below in
    let low = All-tail (λ w. w < length loads) u before units.below in
    let p = period_at loads u in
    let f = (get_or plan u nowhere).phase in
    let h = hyper_at loads before plan in
    let g = gcd h p in
    let pos = period-pos loads u within loads_are in
    let phase = phase_at loads plan u within legal.whole legal.phases in
    let some = (gcd-range h p pos).0 in
    let r = gcd-reached h p pos in
    elim (cases_lt f g) [
      | inl keeps ↦ inl keeps
      | inr breaks ↦
          let d = r.0 * h in
          let turned : d % p ≡ g = r.1 ∙ mod-eq_of_lt (let small : g < p = omega arith in small) in
          let moves = earlier-less d p f g phase breaks turned in
          let at = earlier-at d loads plan u within legal.whole in
          let lower : (get_or (earlier_plan d loads plan) u nowhere).phase ≡ f - g = ap (λ (q : Place). q.phase) at ∙ moves in
          inr (record {
            other = earlier_plan d loads plan;
            stands = record { legal = earlier-legal d loads n plan legal; costs = earlier-costs d loads n plan legal.phases; slot = earlier-slot d loads plan };
            less = inr (
              earlier-agrees d loads plan before n legal low (λ w m. multiple-at loads loads_are before plan r.0 w low m),
              inl (omega arith, refl),
            );
          })
    ]
