-- The places of a unit from a first one on: `suffix`, those that aren't below it are the ones that `places_left` tells from it.
use Rattle.std.proofs.Common.{◌≡◌, ℕ, zero, suc, ◌+◌, ◌-◌, ◌<◌, ◌≤◌, ◌==◌, ◌&&◌, ◌||◌, min, nat_lt, not, Bool, true, false, List, [], ◌∷◌, ◌++◌, filter, refl, sym, ap, ◌∙◌, arith, inl, inr}
use Rattle.std.specs.List.{flat_map, range_with_len}
use Rattle.std.proofs.lemmas.Bool.{cases_lt, cond-true, cond-false, eq-eqb, ne_eqb, lt-ltb, le-ltb}
use Rattle.std.proofs.lemmas.List.Elements.{filter-append}
use Rattle.ec_units.specs.declared.slave.Place.{Place}
use Rattle.ec_loads.specs.Search.{places_for}
use Rattle.ec_loads.specs.Strong.{is_below}
use Rattle.ec_symmetry.specs.Choices.{row, places_left}
use Rattle.ec_symmetry.proofs.ChoiceLemmas.{at, next_phase}

-- not below the place at phase f in slot s
abbrev from_place : ℕ → ℕ → Place → Bool
from_place f s p = not (is_below p (at f s))

-- whether a place is below, by its phase and slot
below-phase : (f s g k : ℕ) → g < f → is_below (at g k) (at f s) ≡ true
below-phase f s g k low = ap (λ b. b || ((g == f) && nat_lt k s)) (lt-ltb g f low)

above-phase : (f s g k : ℕ) → f < g → is_below (at g k) (at f s) ≡ false
above-phase f s g k high = (λ i. le-ltb g f (omega arith) i || (ne_eqb g f (λ e. omega arith) i && nat_lt k s))

in-phase : (f s k : ℕ) → is_below (at f k) (at f s) ≡ nat_lt k s
in-phase f s k = λ i. le-ltb f f (omega arith) i || (eq-eqb f f refl i && nat_lt k s)

-- a row of which all pass, and one of which none does
row-pass : (test : Place → Bool) (g a m : ℕ) → ((k : ℕ) → a ≤ k → test (at g k) ≡ true) → filter test (row g a m) ≡ row g a m
row-pass test g a zero all = refl
row-pass test g a (suc m) all =
    let rest = row-pass test g (a + 1) m (λ k h. all k (omega arith)) in
    cond-true (test (at g a)) (at g a ∷ filter test (row g (a + 1) m)) (filter test (row g (a + 1) m)) (all a (omega arith)) ∙ ap (λ w. at g a ∷ w) rest

row-fail : (test : Place → Bool) (g a m : ℕ) → ((k : ℕ) → test (at g k) ≡ false) → filter test (row g a m) ≡ []
row-fail test g a zero none = refl
row-fail test g a (suc m) none =
    cond-false (test (at g a)) (at g a ∷ filter test (row g (a + 1) m)) (filter test (row g (a + 1) m)) (none a) ∙ row-fail test g (a + 1) m none

-- the row of the first place
row-from : (f s a m : ℕ) → a ≤ s → filter (from_place f s) (row f a m) ≡ row f s ((a + m) - s)
row-from f s a zero low = ap (row f s) (let e : 0 ≡ (a + 0) - s = omega arith in e)
row-from f s a (suc m) low =
    elim (cases_lt a s) [
      | inl less ↦
          cond-false (from_place f s (at f a)) (at f a ∷ filter (from_place f s) (row f (a + 1) m)) (filter (from_place f s) (row f (a + 1) m)) (ap not (in-phase f s a ∙ lt-ltb a s less))
          ∙ row-from f s (a + 1) m (omega arith)
          ∙ ap (row f s) (let e : ((a + 1) + m) - s ≡ (a + suc m) - s = omega arith in e)
      | inr more ↦
          let is : a ≡ s = omega arith in
          row-pass (from_place f s) f a (suc m) (λ k h. ap not (in-phase f s k ∙ le-ltb k s (omega arith)))
          ∙ ap (λ w. row f w (suc m)) is
          ∙ ap (row f s) (let e : suc m ≡ (a + suc m) - s = omega arith in e)
    ]

-- the rows of so many phases, from one on
abbrev rows : ℕ → ℕ → ℕ → List Place
rows w a m = flat_map (λ f. row f 0 w) (range_with_len a m)

rows-pass : (f s w a m : ℕ) → f < a → filter (from_place f s) (rows w a m) ≡ rows w a m
rows-pass f s w a zero high = refl
rows-pass f s w a (suc m) high =
    let first = row-pass (from_place f s) a 0 w (λ k _. ap not (above-phase f s a k high)) in
    let rest = rows-pass f s w (a + 1) m (omega arith) in
    filter-append (from_place f s) (row a 0 w) (rows w (a + 1) m) ∙ (λ i. first i ++ rest i)

-- from the phase of the first place on
rows-at : (f s w m : ℕ) → filter (from_place f s) (rows w f m) ≡ places_left w f s m
rows-at f s w zero = refl
rows-at f s w (suc m) =
    let whole : (0 + w) - s ≡ w - s = omega arith in
    let first = row-from f s 0 w (omega arith) ∙ ap (row f s) whole in
    let rest = rows-pass f s w (f + 1) m (omega arith) in
    filter-append (from_place f s) (row f 0 w) (rows w (f + 1) m) ∙ (λ i. first i ++ rest i)

rows-from : (f s w a m : ℕ) → a ≤ f → filter (from_place f s) (rows w a m) ≡ places_left w f s ((a + m) - f)
rows-from f s w a zero low = ap (places_left w f s) (let e : 0 ≡ (a + 0) - f = omega arith in e)
rows-from f s w a (suc m) low =
    elim (cases_lt a f) [
      | inl less ↦
          let first = row-fail (from_place f s) a 0 w (λ k. ap not (below-phase f s a k less)) in
          let rest = rows-from f s w (a + 1) m (omega arith) in
          filter-append (from_place f s) (row a 0 w) (rows w (a + 1) m) ∙ (λ i. first i ++ rest i)
          ∙ ap (places_left w f s) (let e : ((a + 1) + m) - f ≡ (a + suc m) - f = omega arith in e)
      | inr more ↦
          let is : a ≡ f = omega arith in
          ap (λ x. filter (from_place f s) (rows w x (suc m))) is ∙ rows-at f s w (suc m)
          ∙ ap (places_left w f s) (let e : suc m ≡ (a + suc m) - f = omega arith in e)
    ]

-- of all places of a unit
pub suffix : (first : Place) (n k phases w left : ℕ) → w ≡ min (suc k) n → left ≡ phases - first.phase →
    filter (λ p. not (is_below p first)) (places_for phases n k) ≡ places_left w first.phase first.slot left
suffix first n k phases w left width count =
    ap (λ x. filter (from_place first.phase first.slot) (rows x 0 phases)) (sym width)
    ∙ rows-from first.phase first.slot w 0 phases (omega arith)
    ∙ ap (places_left w first.phase first.slot) (let e : (0 + phases) - first.phase ≡ left = omega arith in e)

-- a first place beyond the last slot is the first one of the next phase
pub next-row : (w f s left : ℕ) → w ≤ s → places_left w f s left ≡ places_left w (f + 1) 0 (left - 1)
next-row w f s zero high = ap (places_left w (f + 1) 0) (let e : 0 ≡ 0 - 1 = omega arith in e)
next-row w f s (suc later) high =
    let none : w - s ≡ 0 = omega arith in
    ap (λ m. row f s m ++ rows w (f + 1) later) none
    ∙ sym (next_phase w (f + 1) later)
    ∙ ap (places_left w (f + 1) 0) (let e : later ≡ suc later - 1 = omega arith in e)

-- without slots, or from a phase that isn't tried on, there is none
pub none-left : (w f s left : ℕ) → left ≡ 0 → places_left w f s left ≡ []
none-left w f s left e = ap (places_left w f s) e

no-rows : (w f s left : ℕ) → w ≡ 0 → places_left w f s left ≡ []
no-rows w f s zero e = refl
no-rows w f s (suc later) e =
    next-row w f s (suc later) (omega arith)
    ∙ ap (places_left w (f + 1) 0) (let less : suc later - 1 ≡ later = omega arith in less)
    ∙ no-rows w (f + 1) 0 later e

pub suffix-none : (first : Place) (n k phases w : ℕ) → w ≡ min (suc k) n → w ≡ 0 → filter (λ p. not (is_below p first)) (places_for phases n k) ≡ []
suffix-none first n k phases w width none = suffix first n k phases w (phases - first.phase) width refl ∙ no-rows w first.phase first.slot (phases - first.phase) none
