-- The loops that rename slots.
-- A call that is lent `v.as_mut_slice()` leaves `take len (new ++ drop (length new) items)`: `written` turns that back.
use Rattle.std.proofs.Common.{◌≡◌, ℕ, zero, suc, ◌+◌, ◌<◌, ◌≤◌, List, [], ◌∷◌, ◌++◌, length, set, take, drop, get_or, sym, ap, ◌∙◌, subst, arith, add-one, take_all, append-nil, drop-cons, drop_of_length-le, not-suc-le-zero, le_of_suc-le-suc}
use Rattle.ec_units.specs.declared.slave.Place.{Place}
use Rattle.ec_loads.specs.Search.{nowhere}
use Rattle.ec_symmetry.specs.Renamed.{swap_place, swap_slots, renamed}
use Rattle.ec_symmetry.proofs.CanonLemmas.{renamed-low, renamed-high}

-- the first i places are exchanged, and the others are as they were
pub record Swapped (a b : ℕ) (before now : List Place) (i : ℕ) : Type 0 where
  pub done : take i now ≡ swap_slots a b (take i before)
  pub left : drop i now ≡ drop i before

swap_suc : (a b : ℕ) (before now : List Place) (i : ℕ) (d x : Place) → i < length before → i < length now → x ≡ swap_place a b (get_or now i d) → Swapped a b before now i → Swapped a b before (set now i x) (suc i)
swap_suc a b [] now i d x h k is s = absurd (not-suc-le-zero h)
swap_suc a b (p ∷ ps) [] i d x h k is s = absurd (not-suc-le-zero k)
swap_suc a b (p ∷ ps) (q ∷ qs) zero d x h k is s =
    let whole : q ∷ qs ≡ p ∷ ps = s.left in
    let first : q ≡ p = cc in
    let rest : qs ≡ ps = cc in
    record { done = ap (λ w. w ∷ []) (is ∙ ap (swap_place a b) first); left = rest }
swap_suc a b (p ∷ ps) (q ∷ qs) (suc i) d x h k is s =
    let whole : q ∷ take i qs ≡ swap_place a b p ∷ swap_slots a b (take i ps) = s.done in
    let first : q ≡ swap_place a b p = cc in
    let rest : take i qs ≡ swap_slots a b (take i ps) = cc in
    let step = swap_suc a b ps qs i d x (le_of_suc-le-suc h) (le_of_suc-le-suc k) is (record { done = rest; left = s.left }) in
    record { done = λ j. first j ∷ step.done j; left = step.left }

pub swap_step : (a b : ℕ) (before now : List Place) (i : ℕ) (d x : Place) → i < length before → i < length now → x ≡ swap_place a b (get_or now i d) → Swapped a b before now i → Swapped a b before (set now i x) (i + 1)
swap_step a b before now i d x h k is s = subst (λ m. Swapped a b before (set now i x) m) (sym (add-one i)) (swap_suc a b before now i d x h k is s)

pub swap_done : (a b : ℕ) (before now : List Place) (i : ℕ) → length before ≤ i → length now ≡ length before → Swapped a b before now i → now ≡ swap_slots a b before
swap_done a b before now i h e s = sym (take_all i now (omega arith)) ∙ s.done ∙ ap (swap_slots a b) (take_all i before h)

-- a unit whose slot is in use already
pub rename_old : (k u i : ℕ) (order : List ℕ) (plan : List Place) → i < length order → u ≡ get_or order i 0 → (get_or plan u nowhere).slot < k → renamed k (drop (i + 1) order) plan ≡ renamed k (drop i order) plan
rename_old k u i order plan h is low =
    sym (renamed-low k u (drop (i + 1) order) plan low)
    ∙ (λ j. renamed k (is j ∷ drop (add-one i j) order) plan)
    ∙ ap (λ w. renamed k w plan) (sym (drop-cons order i 0 h))

-- a unit that is the first with its slot
pub rename_new : (k s u i : ℕ) (order : List ℕ) (plan : List Place) → i < length order → u ≡ get_or order i 0 → s ≡ (get_or plan u nowhere).slot → k ≤ s → renamed (k + 1) (drop (i + 1) order) (swap_slots k s plan) ≡ renamed k (drop i order) plan
rename_new k s u i order plan h is at high =
    (λ j. renamed (add-one k j) (drop (i + 1) order) (swap_slots k (at j) plan))
    ∙ sym (renamed-high k u (drop (i + 1) order) plan (omega arith))
    ∙ (λ j. renamed k (is j ∷ drop (add-one i j) order) plan)
    ∙ ap (λ w. renamed k w plan) (sym (drop-cons order i 0 h))

-- every unit had its turn
pub rename_done : (k i : ℕ) (order : List ℕ) (plan : List Place) → length order ≤ i → renamed k (drop i order) plan ≡ plan
rename_done k i order plan h = ap (λ w. renamed k w plan) (drop_of_length-le order h)

-- a vector whose slice was written
pub written : (n : ℕ) (now items : List Place) → length now ≡ length items → length now ≡ n → take n (now ++ drop (length now) items) ≡ now
written n now items e f =
    ap (λ w. take n (now ++ w)) (drop_of_length-le items (omega arith)) ∙ ap (take n) (append-nil now) ∙ take_all n now (omega arith)
