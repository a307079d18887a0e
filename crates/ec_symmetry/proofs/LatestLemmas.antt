-- The loops over the units that have a place: the greatest place of an equal unit, and the periods.
use Rattle.std.proofs.Common.{◌≡◌, ℕ, zero, suc, ◌+◌, ◌<◌, ◌≤◌, ◌⊎◌, ◌==◌, ◌&&◌, ◌||◌, nat_lt, not, Bool, true, false, List, [], ◌∷◌, ◌++◌, filter, length, take, set, get_or, Option, Some, None, is_some, All, refl, sym, ap, ◌∙◌, arith, inl, inr, add-one, append-nil, not-suc-le-zero, le_of_suc-le-suc, take_all, subst}
use Prim.Native.Nat.{◌∣◌}
use native.Mathlib.Nat.{le_of_dvd, dvd_refl}
use Rattle.std.proofs.lemmas.Bool.{cases_eq, cases_lt, eqb-true, eq-eqb, ltb-true, lt-ltb, or_cases, or_left, or_right, and_parts, true≢false}
use Rattle.std.proofs.lemmas.List.{take_more_set}
use Rattle.std.proofs.lemmas.List.Elements.{All-head, All-tail, All-cons, All-nil}
use Rattle.ec_hyper.specs.Lcm.{lcm_of}
use Rattle.ec_hyper.proofs.LcmLemmas.{lcm_of-is, lcm_of-pos}
use Rattle.ec_units.specs.declared.slave.Place.{Place}
use Rattle.ec_units.specs.declared.unit.Load.{Load}
use Rattle.ec_units.specs.Load.{periods_of}
use Rattle.ec_loads.specs.Held.{AreLoads}
use Rattle.ec_loads.specs.Search.{Prefix}
use Rattle.ec_loads.specs.Strong.{placed_periods, strong_phases, same_load, is_below, has_equal_above}
use Rattle.ec_loads.proofs.ItemLemmas.{positive_loads}
use Rattle.ec_symmetry.specs.Latest.{IsLatest, IsLater}
use Rattle.ec_symmetry.proofs.GcdLemmas.{gcd-only}
use Rattle.ec_symmetry.proofs.ShiftRule.{placed-pos}

-- two tests that hold together are one
pub same-bool : (a b : Bool) → (a ≡ true → b ≡ true) → (b ≡ true → a ≡ true) → a ≡ b
same-bool true true f g = refl
same-bool true false f g = sym (f refl)
same-bool false true f g = g refl
same-bool false false f g = refl

abbrev Lower : Place → Place → Type 0
Lower p q = (p.phase < q.phase) ⊎ ((p.phase ≡ q.phase) × (p.slot < q.slot))

lower-of : (p q : Place) → is_below p q ≡ true → Lower p q
lower-of p q e =
    elim (or_cases (nat_lt p.phase q.phase) ((p.phase == q.phase) && nat_lt p.slot q.slot) e) [
      | inl less ↦ inl (ltb-true p.phase q.phase less)
      | inr later ↦ let both = and_parts (p.phase == q.phase) (nat_lt p.slot q.slot) later in inr (eqb-true p.phase q.phase both.0, ltb-true p.slot q.slot both.1)
    ]

below-of : (p q : Place) → Lower p q → is_below p q ≡ true
below-of p q (inl less) = or_left (nat_lt p.phase q.phase) ((p.phase == q.phase) && nat_lt p.slot q.slot) (lt-ltb p.phase q.phase less)
below-of p q (inr later) =
    or_right (nat_lt p.phase q.phase) ((p.phase == q.phase) && nat_lt p.slot q.slot) (λ i. eq-eqb p.phase q.phase later.0 i && lt-ltb p.slot q.slot later.1 i)

below-then : (p q r : Place) → is_below p q ≡ true → is_below q r ≡ true → is_below p r ≡ true
below-then p q r e f =
    below-of p r (elim (lower-of p q e) [
      | inl a ↦ elim (lower-of q r f) [
        | inl b ↦ inl (omega (arith, a, b))
        | inr b ↦ inl (let same = b.0 in omega (arith, a, same))
      ]
      | inr a ↦ elim (lower-of q r f) [
        | inl b ↦ inl (let same = a.0 in omega (arith, b, same))
        | inr b ↦ inr (a.0 ∙ b.0, (let x = a.1 in let y = b.1 in omega (arith, x, y)))
      ]
    ])

-- no place is below itself
pub below-itself : (p : Place) → is_below p p ≡ false
below-itself p =
    same-bool (is_below p p) false (λ e.
    absurd (elim (lower-of p p e) [
      | inl less ↦ omega (arith, less)
      | inr later ↦ let less = later.1 in omega (arith, less)
    ])) (λ e. absurd (true≢false (sym e)))

-- what is below a place that isn't above q is below q
pub below-least : (p q r : Place) → is_below q r ≡ false → is_below p r ≡ true → is_below p q ≡ true
below-least p q r e f =
    below-of p q (elim (lower-of p r f) [
      | inl a ↦ elim (cases_lt p.phase q.phase) [
        | inl less ↦ inl less
        | inr most ↦ absurd (true≢false (sym (below-of q r (inl (omega (arith, a, most)))) ∙ e))
      ]
      | inr a ↦ elim (cases_lt p.phase q.phase) [
        | inl less ↦ inl less
        | inr most ↦ elim (cases_eq p.phase q.phase) [
          | inl same ↦ elim (cases_lt p.slot q.slot) [
            | inl less ↦ inr (same, less)
            | inr high ↦ absurd (true≢false (sym (below-of q r (inr (sym same ∙ a.0, (let x = a.1 in omega (arith, high, x))))) ∙ e))
          ]
          | inr apart ↦ absurd (true≢false (sym (below-of q r (inl (let same = a.0 in omega (arith, most, same, apart)))) ∙ e))
        ]
      ]
    ])

or-false : (b : Bool) → (b || false) ≡ b
or-false true = refl
or-false false = refl

-- a unit without a place
pub later-none : (l m : Load) (q : Place) → IsLater l m None q q
later-none l m q p = refl

-- one that isn't equal
pub later-other : (l m : Load) (q r : Place) → same_load m l ≡ false → IsLater l m (Some r) q q
later-other l m q r e p = sym (ap (λ b. ((b && is_below p r) || false) || is_below p q) e)

-- one that is equal, at a place that isn't above
pub later-same : (l m : Load) (q r : Place) → same_load m l ≡ true → is_below q r ≡ false → IsLater l m (Some r) q q
later-same l m q r e low p =
    same-bool (is_below p q) (is_below p r || is_below p q) (or_right (is_below p r) (is_below p q))
    (λ h. elim (or_cases (is_below p r) (is_below p q) h) [
      | inl at ↦ below-least p q r low at
      | inr old ↦ old
    ])
    ∙ sym (λ i. or-false (e i && is_below p r) i || is_below p q)

-- or at one that is
pub later-new : (l m : Load) (q r : Place) → same_load m l ≡ true → is_below q r ≡ true → IsLater l m (Some r) q r
later-new l m q r e high p =
    same-bool (is_below p r) (is_below p r || is_below p q) (or_left (is_below p r) (is_below p q))
    (λ h. elim (or_cases (is_below p r) (is_below p q) h) [
      | inl at ↦ at
      | inr old ↦ below-then p q r old high
    ])
    ∙ sym (λ i. or-false (e i && is_below p r) i || is_below p q)

-- a unit in front of the others
pub latest-cons : (l m : Load) (ls : List Load) (ps : Prefix) (p q r : Place) → IsLatest l ls ps q → IsLater l m (Some p) q r → IsLatest l (m ∷ ls) (Some p ∷ ps) r
latest-cons l m ls ps p q r before later = λ x.
    let first = same_load m l && is_below x p in
    ap (λ w. first || w) (before x) ∙ ap (λ w. w || is_below x q) (sym (or-false first)) ∙ sym (later x)

or_assoc : (a b c : Bool) → (a || (b || c)) ≡ ((a || b) || c)
or_assoc true b c = refl
or_assoc false b c = refl

or_turn : (a b : Bool) → (a || b) ≡ (b || a)
or_turn true true = refl
or_turn true false = refl
or_turn false true = refl
or_turn false false = refl

-- one more unit
above-suc : (l : Load) (p : Place) (ls : List Load) (ps : Prefix) (i : ℕ) (d : Load) (e : Option Place) → i < length ls → i < length ps →
    has_equal_above l p (take (suc i) ls) (take (suc i) ps) ≡ (has_equal_above l p (take i ls) (take i ps) || has_equal_above l p (get_or ls i d ∷ []) (get_or ps i e ∷ []))
above-suc l p [] ps i d e h k = absurd (not-suc-le-zero h)
above-suc l p (m ∷ ls) [] i d e h k = absurd (not-suc-le-zero k)
above-suc l p (m ∷ ls) (o ∷ ps) zero d e h k = refl
above-suc l p (m ∷ ls) (None ∷ ps) (suc i) d e h k = above-suc l p ls ps i d e (le_of_suc-le-suc h) (le_of_suc-le-suc k)
above-suc l p (m ∷ ls) (Some q ∷ ps) (suc i) d e h k =
    let first = same_load m l && is_below p q in
    ap (λ w. first || w) (above-suc l p ls ps i d e (le_of_suc-le-suc h) (le_of_suc-le-suc k))
    ∙ or_assoc first (has_equal_above l p (take i ls) (take i ps)) (has_equal_above l p (get_or ls i d ∷ []) (get_or ps i e ∷ []))

-- so a loop goes on
pub latest_more : (l : Load) (ls : List Load) (ps : Prefix) (i : ℕ) (d m : Load) (e o : Option Place) (q r : Place) → i < length ls → i < length ps → m ≡ get_or ls i d → o ≡ get_or ps i e →
    IsLatest l (take i ls) (take i ps) q → IsLater l m o q r → IsLatest l (take (i + 1) ls) (take (i + 1) ps) r
latest_more l ls ps i d m e o q r h k is at before later = rw add-one (λ p.
    above-suc l p ls ps i d e h k
    ∙ (λ j. before p j || has_equal_above l p (sym is j ∷ []) (sym at j ∷ []))
    ∙ or_turn (is_below p q) (has_equal_above l p (m ∷ []) (o ∷ []))
    ∙ sym (later p))

-- and begins: nothing is below phase 0 and slot 0
pub none-lower : (p : Place) → is_below p (record { phase = 0; slot = 0 }) ≡ false
none-lower p =
    let q : Place = record { phase = 0; slot = 0 } in
    same-bool (is_below p q) false (λ e.
    absurd (elim (lower-of p q e) [
      | inl less ↦ not-suc-le-zero less
      | inr later ↦ not-suc-le-zero later.1
    ])) (λ e. absurd (true≢false (sym e)))

pub latest-none : (l : Load) (ls : List Load) (ps : Prefix) → IsLatest l (take 0 ls) (take 0 ps) (record { phase = 0; slot = 0 })
latest-none l ls ps p = sym (none-lower p)

-- the children from the latest place of an equal unit on
pub filter-latest : (l : Load) (ls : List Load) (ps : Prefix) (q : Place) (xs : List Place) → IsLatest l ls ps q → filter (λ p. not (is_below p q)) xs ≡ filter (λ p. not (has_equal_above l p ls ps)) xs
filter-latest l ls ps q xs is = λ i. filter (λ p. not (sym (is p) i)) xs

-- the periods of units that have a place: what one unit adds
abbrev one_period : Load → Option Place → List ℕ
one_period l None = []
one_period l (Some p) = l.period ∷ []

periods-suc : (ls : List Load) (ps : Prefix) (i : ℕ) (d : Load) (e : Option Place) → i < length ls → i < length ps → placed_periods (take (suc i) ls) (take (suc i) ps) ≡ placed_periods (take i ls) (take i ps) ++ one_period (get_or ls i d) (get_or ps i e)
periods-suc [] ps i d e h k = absurd (not-suc-le-zero h)
periods-suc (l ∷ ls) [] i d e h k = absurd (not-suc-le-zero k)
periods-suc (l ∷ ls) (None ∷ ps) zero d e h k = refl
periods-suc (l ∷ ls) (Some p ∷ ps) zero d e h k = refl
periods-suc (l ∷ ls) (None ∷ ps) (suc i) d e h k = periods-suc ls ps i d e (le_of_suc-le-suc h) (le_of_suc-le-suc k)
periods-suc (l ∷ ls) (Some p ∷ ps) (suc i) d e h k = ap (λ w. l.period ∷ w) (periods-suc ls ps i d e (le_of_suc-le-suc h) (le_of_suc-le-suc k))

one-none : (l : Load) (o : Option Place) → is_some o ≡ false → one_period l o ≡ []
one-none l None e = refl
one-none l (Some p) e = absurd (true≢false e)

one-some : (l : Load) (o : Option Place) → is_some o ≡ true → one_period l o ≡ l.period ∷ []
one-some l None e = absurd (true≢false (sym e))
one-some l (Some p) e = refl

-- a loop passes a unit without a place
pub periods_none : (ls : List Load) (ps : Prefix) (i : ℕ) (d : Load) (e : Option Place) → i < length ls → i < length ps → is_some (get_or ps i e) ≡ false → placed_periods (take (i + 1) ls) (take (i + 1) ps) ≡ placed_periods (take i ls) (take i ps)
periods_none ls ps i d e h k none =
    rw add-one (periods-suc ls ps i d e h k ∙ ap (λ w. placed_periods (take i ls) (take i ps) ++ w) (one-none (get_or ls i d) (get_or ps i e) none) ∙ append-nil _)

-- and writes the period of one that has a place
pub periods_some : (ls : List Load) (ps : Prefix) (xs : List ℕ) (i n : ℕ) (d : Load) (e : Option Place) (x : ℕ) → i < length ls → i < length ps → n < length xs → is_some (get_or ps i e) ≡ true → x ≡ (get_or ls i d).period → take n xs ≡ placed_periods (take i ls) (take i ps) → take (n + 1) (set xs n x) ≡ placed_periods (take (i + 1) ls) (take (i + 1) ps)
periods_some ls ps xs i n d e x h k room some is so_far =
    take_more_set xs n x room
    ∙ (λ j. so_far j ++ is j ∷ [])
    ∙ sym (rw add-one (periods-suc ls ps i d e h k ∙ ap (λ w. placed_periods (take i ls) (take i ps) ++ w) (one-some (get_or ls i d) (get_or ps i e) some)))

pub periods_done : (ls : List Load) (ps : Prefix) (xs : List ℕ) (i n : ℕ) → length ls ≤ i → length ps ≡ length ls → take n xs ≡ placed_periods (take i ls) (take i ps) → take n xs ≡ placed_periods ls ps
periods_done ls ps xs i n h same e = e ∙ (λ j. placed_periods (take_all i ls h j) (take_all i ps (omega arith) j))

-- they are within the range of periods
pub placed-range : (ls : List Load) (ps : Prefix) → AreLoads ls → All (λ p. (1 ≤ p) × (p ≤ 60)) (placed_periods ls ps)
placed-range [] ps all = All-nil _
placed-range (l ∷ ls) [] all = All-nil _
placed-range (l ∷ ls) (None ∷ ps) all = placed-range ls ps (All-tail (λ x. (1 ≤ x.period) × (x.period ≤ 60) × (x.bytes ≤ 1486)) l ls all)
placed-range (l ∷ ls) (Some p ∷ ps) all =
    let is = All-head (λ x. (1 ≤ x.period) × (x.period ≤ 60) × (x.bytes ≤ 1486)) l ls all in
    All-cons (λ p. (1 ≤ p) × (p ≤ 60)) l.period (placed_periods ls ps) (is.0, is.1)
    (placed-range ls ps (All-tail (λ x. (1 ≤ x.period) × (x.period ≤ 60) × (x.bytes ≤ 1486)) l ls all))

-- what holds of each holds of the period of a unit that has a place
placed_all : (P : ℕ → Type 0) (ls : List Load) (ps : Prefix) (i : ℕ) (d : Load) (e : Option Place) → i < length ls → i < length ps → is_some (get_or ps i e) ≡ true → All P (placed_periods ls ps) → P (get_or ls i d).period
placed_all P [] ps i d e h k some all = absurd (omega (arith, h))
placed_all P (l ∷ ls) [] i d e h k some all = absurd (omega (arith, k))
placed_all P (l ∷ ls) (None ∷ ps) zero d e h k some all = absurd (true≢false (sym some))
placed_all P (l ∷ ls) (Some q ∷ ps) zero d e h k some all = All-head P l.period (placed_periods ls ps) all
placed_all P (l ∷ ls) (None ∷ ps) (suc i) d e h k some all = placed_all P ls ps i d e (omega (arith, h)) (omega (arith, k)) some all
placed_all P (l ∷ ls) (Some q ∷ ps) (suc i) d e h k some all = placed_all P ls ps i d e (omega (arith, h)) (omega (arith, k)) some (All-tail P l.period (placed_periods ls ps) all)

-- so each phase of such a period is tried
pub phases_whole : (ls : List Load) (ps : Prefix) (i p : ℕ) (d : Load) (e : Option Place) → AreLoads ls → 1 ≤ p → i < length ls → i < length ps → is_some (get_or ps i e) ≡ true → (get_or ls i d).period ≡ p → strong_phases ls ps p ≡ p
phases_whole ls ps i p d e all pos h k some same =
    let m = lcm_of (placed_periods ls ps) in
    let each : All (λ q. q ∣ m) (placed_periods ls ps) = (lcm_of-is (placed_periods ls ps) (placed-pos ls ps all)).multiple in
    let whole : p ∣ m = subst (λ q. q ∣ m) same (placed_all (λ q. q ∣ m) ls ps i d e h k some each) in
    gcd-only m p p pos (whole, dvd_refl p, λ n first second. second)

-- the hyperperiod is a multiple of each
placed-divide : (ls : List Load) (ps : Prefix) (h : ℕ) → All (λ p. p ∣ h) (periods_of ls) → All (λ p. p ∣ h) (placed_periods ls ps)
placed-divide [] ps h all = All-nil _
placed-divide (l ∷ ls) [] h all = All-nil _
placed-divide (l ∷ ls) (None ∷ ps) h all = placed-divide ls ps h (All-tail (λ p. p ∣ h) l.period (periods_of ls) all)
placed-divide (l ∷ ls) (Some p ∷ ps) h all =
    All-cons (λ p. p ∣ h) l.period (placed_periods ls ps) (All-head (λ p. p ∣ h) l.period (periods_of ls) all)
    (placed-divide ls ps h (All-tail (λ p. p ∣ h) l.period (periods_of ls) all))

-- so their least common multiple is no greater
pub placed-short : (ls : List Load) (ps : Prefix) → AreLoads ls → lcm_of (placed_periods ls ps) ≤ lcm_of (periods_of ls)
placed-short ls ps all =
    let h = lcm_of (periods_of ls) in
    let pos = positive_loads ls all in
    le_of_dvd (lcm_of-pos (periods_of ls) pos)
    ((lcm_of-is (placed_periods ls ps) (placed-pos ls ps all)).least h (placed-divide ls ps h (lcm_of-is (periods_of ls) pos).multiple))
