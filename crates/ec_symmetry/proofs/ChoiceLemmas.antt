-- One place of a unit after the other.
-- `count_all`: a unit has `min (used + 1) slots * period` children.
use Rattle.std.proofs.Common.{◌≡◌, ℕ, zero, suc, ◌+◌, ◌-◌, ◌*◌, ◌<◌, min, [], ◌∷◌, ◌++◌, length, refl, ap, ◌∙◌, sym, arith, length-append, mul-zero, mul-suc}
use Rattle.std.specs.List.{flat_map, range_with_len}
use Rattle.std.proofs.lemmas.List.FromFn.{length-map-range_with_len}
use Rattle.ec_units.specs.declared.slave.Place.{Place}
use Rattle.ec_loads.specs.Search.{places_for}
use Rattle.ec_symmetry.specs.Choices.{row, places_left}

-- all places of a unit
pub left_all : (n k period width : ℕ) → width ≡ min (suc k) n → places_left width 0 0 period ≡ places_for period n k
left_all n k zero width e = refl
left_all n k (suc later) width e =
    let whole : width - 0 ≡ width = omega arith in
    ap (λ w. row 0 0 w ++ flat_map (λ f. row f 0 width) (range_with_len 1 later)) whole
    ∙ ap (λ w. flat_map (λ f. row f 0 w) (range_with_len 0 (suc later))) e

no_rows : (a m w : ℕ) → w ≡ 0 → flat_map (λ f. row f 0 w) (range_with_len a m) ≡ []
no_rows a zero w e = refl
no_rows a (suc m) w e = (λ j. row a 0 (e j) ++ flat_map (λ f. row f 0 w) (range_with_len (a + 1) m)) ∙ no_rows (a + 1) m w e

-- without slots there is none
pub left_none : (k period : ℕ) → places_for period 0 k ≡ []
left_none k period = no_rows 0 period (min (suc k) 0) (omega arith)

-- the place at a phase and slot
abbrev pub at : ℕ → ℕ → Place
at phase slot = record { phase = phase; slot = slot }

row-cons : (f s n m : ℕ) → n ≡ suc m → row f s n ≡ at f s ∷ row f (s + 1) m
row-cons f s n m e = ap (row f s) e

-- a place that isn't its phase's last
pub step_slot : (w f s m : ℕ) → (m ≡ 0 → ⊥) → s + 1 < w → places_left w f s m ≡ at f s ∷ places_left w f (s + 1) m
step_slot w f s zero some h = absurd (some refl)
step_slot w f s (suc later) some h =
    ap (λ r. r ++ flat_map (λ g. row g 0 w) (range_with_len (f + 1) later)) (row-cons f s (w - s) (w - (s + 1)) (omega arith))

pub next_phase : (w f later : ℕ) → places_left w f 0 later ≡ flat_map (λ g. row g 0 w) (range_with_len f later)
next_phase w f zero = refl
next_phase w f (suc later) =
    let whole : w - 0 ≡ w = omega arith in
    ap (λ k. row f 0 k ++ flat_map (λ g. row g 0 w) (range_with_len (f + 1) later)) whole

-- a phase's last place
pub step_phase : (w f s m : ℕ) → (m ≡ 0 → ⊥) → s + 1 ≡ w → places_left w f s m ≡ at f s ∷ places_left w (f + 1) 0 (m - 1)
step_phase w f s zero some h = absurd (some refl)
step_phase w f s (suc later) some h =
    let less : later ≡ suc later - 1 = omega arith in
    ap (λ r. r ++ flat_map (λ g. row g 0 w) (range_with_len (f + 1) later)) (row-cons f s (w - s) 0 (omega arith))
    ∙ ap (λ r. at f s ∷ r) (sym (next_phase w (f + 1) later) ∙ ap (places_left w (f + 1) 0) less)

rows-length : (w a m : ℕ) → length (flat_map (λ g. row g 0 w) (range_with_len a m)) ≡ w * m
rows-length w a zero = sym (mul-zero w)
rows-length w a (suc m) =
    length-append (row a 0 w) (flat_map (λ g. row g 0 w) (range_with_len (a + 1) m))
    ∙ (λ j. length-map-range_with_len (at a) 0 w j + rows-length w (a + 1) m j)
    ∙ omega (arith, mul-suc w m)

-- how many places are left
pub count_left : (w f s m : ℕ) → (m ≡ 0 → ⊥) → length (places_left w f s m) ≡ (w - s) + w * (m - 1)
count_left w f s zero some = absurd (some refl)
count_left w f s (suc later) some =
    let less : later ≡ suc later - 1 = omega arith in
    length-append (row f s (w - s)) (flat_map (λ g. row g 0 w) (range_with_len (f + 1) later))
    ∙ (λ j. length-map-range_with_len (at f) s (w - s) j + (rows-length w (f + 1) later ∙ ap (λ k. w * k) less) j)

-- how many places a unit has in all
pub count_all : (period n k : ℕ) → length (places_for period n k) ≡ min (suc k) n * period
count_all period n k = rows-length (min (suc k) n) 0 period
