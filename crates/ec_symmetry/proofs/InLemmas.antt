-- Which places are children.
-- `In-children` and `children-In` go both ways; `In-cases` takes one apart. How many phases a rule tries stands in `phases_by`, of which the children ask
-- `phases_by-most` and `phases_by-least` alone.
use Rattle.std.proofs.Common.{◌≡◌, ℕ, zero, suc, ◌+◌, ◌<◌, ◌≤◌, ◌⊎◌, min, not, Bool, true, false, if◌then◌else◌, cond, filter, List, [], ◌∷◌, ◌++◌, map, get_or, refl, sym, ap, ◌∙◌, subst, arith, inl, inr}
use Rattle.std.specs.List.{flat_map, range_with_len}
use Rattle.std.proofs.lemmas.Bool.{cases_eq, cond_both}
use Rattle.ec_hyper.specs.Lcm.{lcm_of}
use Rattle.ec_units.specs.declared.slave.Place.{Place}
use Rattle.ec_units.specs.declared.unit.Load.{Load}
use Rattle.ec_loads.specs.Line.{Rules, slots_alone, turned_time, strong, rules_if, Line, line_by}
use Rattle.ec_loads.specs.Search.{Prefix, used, nobody, places_for, has_no_place, phases_by, children_by, children}
use Rattle.ec_loads.specs.Strong.{placed_periods, strong_phases, has_equal_above, strong_children}
use Rattle.ec_symmetry.specs.Reached.{In, here, there}
use Rattle.ec_symmetry.proofs.GcdLemmas.{gcd-most, gcd-range}

pub In-cases : {A : Type 0} {x y : A} {xs : List A} → In x (y ∷ xs) → (x ≡ y) ⊎ In x xs
In-cases here = inl refl
In-cases (there m) = inr m

In-range : (x a n : ℕ) → a ≤ x → x < a + n → In x (range_with_len a n)
In-range x a zero low high = absurd (omega arith)
In-range x a (suc n) low high =
    elim (cases_eq x a) [
      | inl is ↦ subst (λ w. In w (a ∷ range_with_len (a + 1) n)) (sym is) here
      | inr apart ↦ there (In-range x (a + 1) n (omega arith) (omega arith))
    ]

In-map : {A B : Type 0} (f : A → B) {x : A} {xs : List A} → In x xs → In (f x) (map f xs)
In-map f here = here
In-map f (there m) = there (In-map f m)

In-left : {A : Type 0} {x : A} {xs : List A} (ys : List A) → In x xs → In x (xs ++ ys)
In-left ys here = here
In-left ys (there m) = there (In-left ys m)

In-right : {A : Type 0} {x : A} (xs : List A) {ys : List A} → In x ys → In x (xs ++ ys)
In-right [] m = m
In-right (y ∷ xs) m = there (In-right xs m)

In-flat_map : {A B : Type 0} (f : A → List B) {x : A} {y : B} {xs : List A} → In x xs → In y (f x) → In y (flat_map f xs)
In-flat_map f (here {x} {xs}) m = In-left (flat_map f xs) m
In-flat_map f (there {x} {y = z} {xs} k) m = In-right (f z) (In-flat_map f k m)

-- which places are tried
pub In-places_for : (phases n k : ℕ) (p : Place) → p.phase < phases → p.slot ≤ k → p.slot < n → In p (places_for phases n k)
In-places_for phases n k p phase low slot =
    let row : ℕ → List Place = λ f. map (λ s. record { phase = f; slot = s }) (range_with_len 0 (min (suc k) n)) in
    In-flat_map row (In-range p.phase 0 phases (omega arith) (omega arith))
    (In-map (λ s. record { phase = p.phase; slot = s }) (In-range p.slot 0 (min (suc k) n) (omega arith) (omega arith)))

-- which places are children by slots alone, or where time is turned
pub In-places : (turned : Bool) (loads : List Load) (n : ℕ) (ps : Prefix) (u : ℕ) (p : Place) → p.phase < phases_by (rules_if turned) loads ps (get_or loads u nobody).period → p.slot ≤ used ps → p.slot < n → In p (children (line_by (rules_if turned) loads n) ps u)
unfolding children
In-places false loads n ps u p phase low slot = In-places_for (get_or loads u nobody).period n (used ps) p phase low slot
In-places true loads n ps u p phase low slot = In-places_for (phases_by turned_time loads ps (get_or loads u nobody).period) n (used ps) p phase low slot

-- by the rules of slots alone
pub In-children : (loads : List Load) (n : ℕ) (ps : Prefix) (u : ℕ) (p : Place) → p.phase < (get_or loads u nobody).period → p.slot ≤ used ps → p.slot < n → In p (children (line_by slots_alone loads n) ps u)
In-children loads n ps u p phase low slot = In-places false loads n ps u p phase low slot

range-In : (x a n : ℕ) → In x (range_with_len a n) → (a ≤ x) × (x < a + n)
range-In x a zero m = elim m [ ]
range-In x a (suc n) m =
    elim (In-cases m) [
      | inl is ↦ (omega arith, omega arith)
      | inr later ↦ let r = range-In x (a + 1) n later in (omega (arith, r.0), omega (arith, r.1))
    ]

map-In : {A B : Type 0} (f : A → B) (y : B) (xs : List A) → In y (map f xs) → (x : A) × In x xs × (y ≡ f x)
map-In f y [] m = elim m [ ]
map-In f y (x ∷ xs) m =
    elim (In-cases m) [
      | inl is ↦ (x, here, is)
      | inr later ↦ let r = map-In f y xs later in (r.0, there r.1, r.2)
    ]

append-In : {A : Type 0} (x : A) (xs ys : List A) → In x (xs ++ ys) → In x xs ⊎ In x ys
append-In x [] ys m = inr m
append-In x (z ∷ xs) ys m =
    elim (In-cases m) [
      | inl is ↦ inl (subst (λ w. In w (z ∷ xs)) (sym is) here)
      | inr later ↦ elim (append-In x xs ys later) [
        | inl left ↦ inl (there left)
        | inr right ↦ inr right
      ]
    ]

flat_map-In : {A B : Type 0} (f : A → List B) (y : B) (xs : List A) → In y (flat_map f xs) → (x : A) × In x xs × In y (f x)
flat_map-In f y [] m = elim m [ ]
flat_map-In f y (x ∷ xs) m =
    elim (append-In y (f x) (flat_map f xs) m) [
      | inl left ↦ (x, here, left)
      | inr right ↦ let r = flat_map-In f y xs right in (r.0, there r.1, r.2)
    ]

places_for-In : (phases n k : ℕ) (p : Place) → In p (places_for phases n k) → (p.phase < phases) × (p.slot ≤ k) × (p.slot < n)
places_for-In phases n k p m =
    let row : ℕ → List Place = λ f. map (λ s. record { phase = f; slot = s }) (range_with_len 0 (min (suc k) n)) in
    let f = flat_map-In row p (range_with_len 0 phases) m in
    let s = map-In (λ s. let q : Place = record { phase = f.0; slot = s } in q) p (range_with_len 0 (min (suc k) n)) f.2 in
    let phase : p.phase ≡ f.0 = ap (λ (w : Place). w.phase) s.2 in
    let slot : p.slot ≡ s.0 = ap (λ (w : Place). w.slot) s.2 in
    let low = range-In f.0 0 phases f.1 in
    let high = range-In s.0 0 (min (suc k) n) s.1 in
    (omega (arith, low.1, phase), omega (arith, high.1, slot), omega (arith, high.1, slot))

pub In-filter : {A : Type 0} (test : A → Bool) (x : A) (xs : List A) → In x xs → test x ≡ true → In x (filter test xs)
In-filter test x [] m e = elim m [ ]
In-filter test x (y ∷ xs) m e =
    elim (In-cases m) [
      | inl is ↦
          let kept : test y ≡ true = ap test (sym is) ∙ e in
          subst (λ w. In x w) (λ i. cond (sym kept i) (y ∷ filter test xs) (filter test xs)) (subst (λ w. In w (y ∷ filter test xs)) (sym is) here)
      | inr later ↦
          cond_both (test y) (y ∷ filter test xs) (filter test xs) (λ w. In x w) (λ _. there (In-filter test x xs later e)) (λ _. In-filter test x xs later e)
    ]

filter-In : {A : Type 0} (test : A → Bool) (x : A) (xs : List A) → In x (filter test xs) → In x xs
filter-In test x [] m = elim m [ ]
filter-In test x (y ∷ xs) m =
    cond_both (test y) (y ∷ filter test xs) (filter test xs) (λ w. In x w → In x (y ∷ xs))
    (λ _ k. elim (In-cases k) [
      | inl is ↦ subst (λ w. In w (y ∷ xs)) (sym is) here
      | inr later ↦ there (filter-In test x xs later)
    ])
    (λ _ k. there (filter-In test x xs k))
    m

-- no unit tries more phases than its period has, and each at least one
pub phases_by-most : (rules : Rules) (loads : List Load) (ps : Prefix) (period : ℕ) → phases_by rules loads ps period ≤ period
phases_by-most slots_alone loads ps period = omega arith
phases_by-most turned_time loads ps period =
    elim (has_no_place ps) as (λ b. (if b then min 1 period else period) ≤ period) [
      | true ↦ omega arith
      | false ↦ omega arith
    ]
phases_by-most strong loads ps period = gcd-most (lcm_of (placed_periods loads ps)) period

pub phases_by-least : (rules : Rules) (loads : List Load) (ps : Prefix) (period : ℕ) → 1 ≤ period → 1 ≤ phases_by rules loads ps period
phases_by-least slots_alone loads ps period some = some
phases_by-least turned_time loads ps period some =
    elim (has_no_place ps) as (λ b. 1 ≤ (if b then min 1 period else period)) [
      | true ↦ omega arith
      | false ↦ some
    ]
phases_by-least strong loads ps period some = (gcd-range (lcm_of (placed_periods loads ps)) period some).0

children_by-In : (rules : Rules) (loads : List Load) (n : ℕ) (ps : Prefix) (u : ℕ) (p : Place) → In p (children_by rules loads n ps u) → (p.phase < phases_by rules loads ps (get_or loads u nobody).period) × (p.slot ≤ used ps) × (p.slot < n)
unfolding strong_children
children_by-In slots_alone loads n ps u p m = places_for-In (get_or loads u nobody).period n (used ps) p m
children_by-In turned_time loads n ps u p m = places_for-In (phases_by turned_time loads ps (get_or loads u nobody).period) n (used ps) p m
children_by-In strong loads n ps u p m =
    let l = get_or loads u nobody in
    let all = places_for (strong_phases loads ps l.period) n (used ps) in
    places_for-In (strong_phases loads ps l.period) n (used ps) p (filter-In (λ q. not (has_equal_above l q loads ps)) p all m)

-- by any rules they are within these limits
pub children-In : (line : Line) (ps : Prefix) (u : ℕ) (p : Place) → In p (children line ps u) → (p.phase < (get_or line.loads u nobody).period) × (p.slot ≤ used ps) × (p.slot < line.slots)
unfolding children
children-In line ps u p m =
    let r = children_by-In line.rules line.loads line.slots ps u p m in
    let most = phases_by-most line.rules line.loads ps (get_or line.loads u nobody).period in
    (omega (arith, most, r.0), r.1, r.2)

-- the children by slots alone, or where time is turned
pub children-is : (turned : Bool) (loads : List Load) (n : ℕ) (ps : Prefix) (u : ℕ) → children (line_by (rules_if turned) loads n) ps u ≡ places_for (phases_by (rules_if turned) loads ps (get_or loads u nobody).period) n (used ps)
unfolding children
children-is false loads n ps u = refl
children-is true loads n ps u = refl
