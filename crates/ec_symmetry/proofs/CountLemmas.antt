-- How many children a unit has: by any rules 1 to 480, after a prefix that the children reach.
-- By the strong rules the greatest place of an equal unit is a child, since it is within its ranges and its slot is in use. So `IsWithin` of the prefix is
-- asked, which holds at first (`IsWithin-none`) and after each child (`IsWithin-set`).
use Rattle.std.proofs.Common.{◌≡◌, ℕ, suc, ◌*◌, ◌<◌, ◌≤◌, ◌⊎◌, ◌==◌, min, not, Bool, true, false, List, [], ◌∷◌, filter, length, set, get_or, slice_get, Some, None, refl, sym, ap, ◌∙◌, subst, arith, inl, inr, mul-le-mul}
use Prim.Native.Nat.{◌∣◌}
use Rattle.std.specs.List.{list_any}
use Rattle.std.proofs.lemmas.Bool.{cases_Bool, cases_eq, cond_both, or_parts}
use Rattle.std.proofs.lemmas.List.{get_or-set_same, get_or-set_other, length-set, length-map}
use Rattle.std.proofs.lemmas.List.Elements.{All-get_or}
use Rattle.std.proofs.lemmas.Nat.Gcd.{dvd_refl}
use Rattle.ec_hyper.specs.Lcm.{lcm_of}
use Rattle.ec_hyper.proofs.LcmLemmas.{lcm_of-is}
use Rattle.ec_units.specs.declared.slave.Place.{Place}
use Rattle.ec_units.specs.declared.unit.Load.{Load}
use Rattle.ec_loads.specs.Held.{AreLoads, no_places}
use Rattle.ec_loads.specs.Line.{Rules, slots_alone, turned_time, strong, Line}
use Rattle.ec_loads.specs.Search.{Prefix, nobody, used, places_for, phases_by, children_by, children}
use Rattle.ec_loads.specs.Strong.{gcd, placed_periods, strong_phases, same_load, is_below, has_equal_above, strong_children}
use Rattle.ec_symmetry.specs.Latest.{IsLatest}
use Rattle.ec_symmetry.specs.Orders.{has_repeat, IsOrder}
use Rattle.ec_symmetry.specs.Reached.{In}
use Rattle.ec_symmetry.proofs.ChoiceLemmas.{count_all}
use Rattle.ec_symmetry.proofs.FreeLemmas.{AreFree, AreFree-set, AreFree-none}
use Rattle.ec_symmetry.proofs.GcdLemmas.{gcd-only, gcd-range}
use Rattle.ec_symmetry.proofs.InLemmas.{In-filter, In-places_for, children-In, phases_by-most, phases_by-least}
use Rattle.ec_symmetry.proofs.LatestLemmas.{none-lower, latest-cons, below-itself, later-other, later-same, later-new}
use Rattle.ec_symmetry.proofs.ShiftRule.{period_at, period-pos, placed-pos, placed-at}
use Rattle.ec_symmetry.proofs.SlotRule.{none-get, member-at}
use Rattle.ec_symmetry.proofs.StrongLemmas.{one-load}
use Rattle.ec_symmetry.proofs.UsedLemmas.{NoGap, NoGap-none, step_free}

-- a prefix whose places are within their ranges, and that uses the least slots
pub record IsWithin (loads : List Load) (n : ℕ) (ps : Prefix) : Type 0 where
  pub long : length ps ≡ length loads
  pub phases : (w : ℕ) (q : Place) → get_or ps w None ≡ Some q → q.phase < period_at loads w
  pub slots : (w : ℕ) (q : Place) → get_or ps w None ≡ Some q → q.slot < n
  pub dense : NoGap ps

pub IsWithin-none : (loads : List Load) (n : ℕ) → IsWithin loads n (no_places loads)
IsWithin-none loads n =
    record {
      long = length-map loads (λ _. None);
      phases = λ w q e. absurd (none-get loads w q e);
      slots = λ w q e. absurd (none-get loads w q e);
      dense = NoGap-none loads;
    }

-- the places of a prefix with one more
set-keeps : (P : ℕ → Place → Type 0) (ps : Prefix) (u : ℕ) (p : Place) → u < length ps → P u p → ((w : ℕ) (q : Place) → get_or ps w None ≡ Some q → P w q) → (w : ℕ) (q : Place) → get_or (set ps u (Some p)) w None ≡ Some q → P w q
set-keeps P ps u p within new old w q e =
    elim (cases_eq w u) [
      | inl is ↦
          let both : Some p ≡ Some q = sym (get_or-set_same ps u (Some p) None within) ∙ subst (λ x. get_or (set ps u (Some p)) x None ≡ Some q) is e in
          let same : p ≡ q = cc in
          subst (λ x. P x q) (sym is) (subst (λ r. P u r) same new)
      | inr apart ↦ old w q (sym (get_or-set_other ps u w (Some p) None apart) ∙ e)
    ]

pub IsWithin-set : (line : Line) (ps : Prefix) (u : ℕ) (p : Place) → u < length line.loads → slice_get ps u ≡ Some None → In p (children line ps u) → IsWithin line.loads line.slots ps → IsWithin line.loads line.slots (set ps u (Some p))
IsWithin-set line ps u p within free child is =
    let range = children-In line ps u p child in
    let long = is.long in
    let room : u < length ps = omega arith in
    record {
      long = length-set ps u (Some p) ∙ is.long;
      phases = set-keeps (λ w q. q.phase < period_at line.loads w) ps u p room range.0 is.phases;
      slots = set-keeps (λ _ q. q.slot < line.slots) ps u p room range.2 is.slots;
      dense = (step_free ps u p is.dense free range.1).dense;
    }

-- the greatest place of the units that are equal to a load: phase 0 and slot 0, or that of one of them
record Latest (l : Load) (loads : List Load) (ps : Prefix) : Type 0 where
  place : Place
  latest : IsLatest l loads ps place
  whose : ((place.phase ≡ 0) × (place.slot ≡ 0)) ⊎ ((w : ℕ) × (w < length loads) × (get_or ps w None ≡ Some place) × (get_or loads w nobody ≡ l))

latest-of : (l : Load) (loads : List Load) (ps : Prefix) → Latest l loads ps
latest-of l [] ps = record { place = record { phase = 0; slot = 0 }; latest = λ p. sym (none-lower p); whose = inl (refl, refl) }
latest-of l (m ∷ ls) [] = record { place = record { phase = 0; slot = 0 }; latest = λ p. sym (none-lower p); whose = inl (refl, refl) }
latest-of l (m ∷ ls) (None ∷ ps) =
    let r = latest-of l ls ps in
    record {
      place = r.place;
      latest = r.latest;
      whose = elim r.whose [
        | inl none ↦ inl none
        | inr at ↦ inr (suc at.0, omega (arith, at.1), at.2, at.3)
      ];
    }
latest-of l (m ∷ ls) (Some p ∷ ps) =
    let r = latest-of l ls ps in
    let old : ((r.place.phase ≡ 0) × (r.place.slot ≡ 0)) ⊎ ((w : ℕ) × (w < length (m ∷ ls)) × (get_or (Some p ∷ ps) w None ≡ Some r.place) × (get_or (m ∷ ls) w nobody ≡ l)) =
    elim r.whose [
      | inl none ↦ inl none
      | inr at ↦ inr (suc at.0, omega (arith, at.1), at.2, at.3)
    ] in
    elim (cases_Bool (same_load m l)) [
      | inr other ↦ record { place = r.place; latest = latest-cons l m ls ps p r.place r.place r.latest (later-other l m r.place p other); whose = old }
      | inl equal ↦ elim (cases_Bool (is_below r.place p)) [
        | inr low ↦ record { place = r.place; latest = latest-cons l m ls ps p r.place r.place r.latest (later-same l m r.place p equal low); whose = old }
        | inl high ↦ record { place = p; latest = latest-cons l m ls ps p r.place p r.latest (later-new l m r.place p equal high); whose = inr (0, omega arith, refl, one-load m l equal) }
      ]
    ]

-- by the strong rules it is a child
strong-child : (loads : List Load) (n : ℕ) (ps : Prefix) (u : ℕ) → AreLoads loads → 1 ≤ n → u < length loads → IsWithin loads n ps → (q : Place) × In q (children_by strong loads n ps u)
unfolding strong_children
strong-child loads n ps u all some within is =
    let l = get_or loads u nobody in
    let h = lcm_of (placed_periods loads ps) in
    let pos = period-pos loads u within all in
    let r = latest-of l loads ps in
    let q = r.place in
    let passes : not (has_equal_above l q loads ps) ≡ true = ap not (r.latest q ∙ below-itself q) in
    let child : q.phase < gcd h l.period → q.slot ≤ used ps → q.slot < n → In q (children_by strong loads n ps u) = λ phase low slot.
    In-filter (λ p. not (has_equal_above l p loads ps)) q (places_for (strong_phases loads ps l.period) n (used ps)) (In-places_for (strong_phases loads ps l.period) n (used ps) q phase low slot) passes in
    elim r.whose [
      | inl none ↦ let first = gcd-range h l.period pos in (q, child (omega (arith, none.0, first.0)) (omega (arith, none.1)) (omega (arith, none.1, some)))
      | inr at ↦
          let same : period_at loads at.0 ≡ l.period = ap (λ (x : Load). x.period) at.3 in
          let divides : l.period ∣ h = subst (λ p. p ∣ h) same (placed-at (λ p. p ∣ h) loads ps at.0 q at.1 at.2 (lcm_of-is (placed_periods loads ps) (placed-pos loads ps all)).multiple) in
          let whole = gcd-only h l.period l.period pos (divides, dvd_refl l.period, λ d _ e. e) in
          let phase = is.phases at.0 q at.2 in
          let low = is.dense.below q.slot (member-at ps at.0 q at.2) in
          (q, child (omega (arith, phase, same, whole)) (omega (arith, low)) (is.slots at.0 q at.2))
    ]

some-length : {A : Type 0} (x : A) (xs : List A) → In x xs → 1 ≤ length xs
some-length x [] m = elim m [ ]
some-length x (y ∷ xs) m = omega arith

filter-length : {A : Type 0} (test : A → Bool) (xs : List A) → length (filter test xs) ≤ length xs
filter-length test [] = omega arith
filter-length test (x ∷ xs) =
    let rest = filter-length test xs in
    cond_both (test x) (x ∷ filter test xs) (filter test xs) (λ w. length w ≤ suc (length xs)) (λ _. omega (arith, rest)) (λ _. omega (arith, rest))

-- the places that are tried are at most 480
tried-count : (rules : Rules) (loads : List Load) (n : ℕ) (ps : Prefix) (u : ℕ) → AreLoads loads → 1 ≤ n → n ≤ 8 → u < length loads →
    (1 ≤ length (places_for (phases_by rules loads ps (get_or loads u nobody).period) n (used ps))) × (length (places_for (phases_by rules loads ps (get_or loads u nobody).period) n (used ps)) ≤ 480)
tried-count rules loads n ps u within some few h =
    let l = get_or loads u nobody in
    let is = All-get_or (λ (x : Load). (1 ≤ x.period) × (x.period ≤ 60) × (x.bytes ≤ 1486)) loads u nobody h within in
    let phases = phases_by rules loads ps l.period in
    let one = phases_by-least rules loads ps l.period is.0 in
    let all = phases_by-most rules loads ps l.period in
    let count = count_all phases n (used ps) in
    let least : 1 ≤ min (suc (used ps)) n = omega arith in
    let most : min (suc (used ps)) n ≤ 8 = omega arith in
    let low : 1 * 1 ≤ min (suc (used ps)) n * phases = mul-le-mul least one in
    let small : phases ≤ 60 = omega (arith, all, is.1) in
    let high : min (suc (used ps)) n * phases ≤ 8 * 60 = mul-le-mul most small in
    (omega (arith, count, low), omega (arith, count, high))

count-by : (rules : Rules) (loads : List Load) (n : ℕ) (ps : Prefix) (u : ℕ) → AreLoads loads → 1 ≤ n → n ≤ 8 → u < length loads → IsWithin loads n ps → (1 ≤ length (children_by rules loads n ps u)) × (length (children_by rules loads n ps u) ≤ 480)
unfolding strong_children
count-by slots_alone loads n ps u within some few h is = tried-count slots_alone loads n ps u within some few h
count-by turned_time loads n ps u within some few h is = tried-count turned_time loads n ps u within some few h
count-by strong loads n ps u within some few h is =
    let l = get_or loads u nobody in
    let child = strong-child loads n ps u within some h is in
    let most = tried-count strong loads n ps u within some few h in
    let fewer = filter-length (λ p. not (has_equal_above l p loads ps)) (places_for (strong_phases loads ps l.period) n (used ps)) in
    (some-length child.0 (children_by strong loads n ps u) child.1, omega (arith, fewer, most.1))

-- a unit has 1 to 480 children
pub children-count : (line : Line) (ps : Prefix) (u : ℕ) → AreLoads line.loads → 1 ≤ line.slots → line.slots ≤ 8 → u < length line.loads → IsWithin line.loads line.slots ps → (1 ≤ length (children line ps u)) × (length (children line ps u) ≤ 480)
unfolding children
children-count line ps u within some few h is = count-by line.rules line.loads line.slots ps u within some few h is

-- units that are to get places after such a prefix: none has one yet, and none comes twice
pub record AreLeft (line : Line) (ps : Prefix) (order : List ℕ) : Type 0 where
  pub within : IsWithin line.loads line.slots ps
  pub once : has_repeat order ≡ false
  pub free : AreFree ps order

pub AreLeft-none : (line : Line) (order : List ℕ) → IsOrder (length line.loads) order → AreLeft line (no_places line.loads) order
AreLeft-none line order is = record { within = IsWithin-none line.loads line.slots; once = is.once; free = AreFree-none line.loads order is.below }

-- one of them got a child
pub AreLeft-child : (line : Line) (ps : Prefix) (u : ℕ) (order : List ℕ) (p : Place) → u < length line.loads → In p (children line ps u) → AreLeft line ps (u ∷ order) → AreLeft line (set ps u (Some p)) order
AreLeft-child line ps u order p within child left =
    let parts = or_parts (list_any (λ w. u == w) order) (has_repeat order) left.once in
    record {
      within = IsWithin-set line ps u p within left.free.0 child left.within;
      once = parts.1;
      free = AreFree-set ps u (Some p) order parts.0 left.free.1;
    }
