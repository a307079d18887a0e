-- A cell is written: what a read of the table gives, by plain numbers.
-- The change of a tick is said without subtraction: `column_step`.
use Rattle.std.proofs.Common.{◌≡◌, ◌≢◌, ℕ, zero, suc, ◌⊎◌, ◌+◌, ◌*◌, ◌<◌, ◌≤◌, List, length, set, get_or, inl, inr, sym, subst, ap, ◌∙◌, arith}
use Rattle.std.proofs.Common.{get_or-set_other, get_or-set_same}
use Rattle.std.proofs.lemmas.Bool.Decides.{eqb_tells}

-- a write at tick k, seen at tick t of a slot
pub other_tick : (xs : List ℕ) (t k s v : ℕ) → t ≢ k → get_or (set xs (k * 8 + s) v) (t * 8 + s) 0 ≡ get_or xs (t * 8 + s) 0
other_tick xs t k s v h = get_or-set_other xs (k * 8 + s) (t * 8 + s) v 0 (λ e. h (omega (arith, e)))

pub this_tick : (xs : List ℕ) (t k s v : ℕ) → t ≡ k → k * 8 + s < length xs → get_or (set xs (k * 8 + s) v) (t * 8 + s) 0 ≡ v
this_tick xs t k s v e h = ap (λ w. get_or (set xs (k * 8 + s) v) (w * 8 + s) 0) e ∙ get_or-set_same xs (k * 8 + s) v 0 h

pub other_slot : (xs : List ℕ) (t k s r v : ℕ) → s < 8 → r < 8 → r ≢ s → get_or (set xs (k * 8 + s) v) (t * 8 + r) 0 ≡ get_or xs (t * 8 + r) 0
other_slot xs t k s r v within below h = get_or-set_other xs (k * 8 + s) (t * 8 + r) v 0 (λ e. h (omega (arith, e)))

pub here_only : (xs : List ℕ) (t k v : ℕ) → t ≢ k → get_or (set xs k v) t 0 ≡ get_or xs t 0
here_only xs t k v h = get_or-set_other xs k t v 0 h

pub here_same : (xs : List ℕ) (t k v : ℕ) → t ≡ k → k < length xs → get_or (set xs k v) t 0 ≡ v
here_same xs t k v e h = ap (λ w. get_or (set xs k v) w 0) e ∙ get_or-set_same xs k v 0 h

-- what holds of each tick but one, and of that one, holds of each
pub each_tick : (P : ℕ → Type 0) (n k : ℕ) → ((t : ℕ) → t < n → t ≢ k → P t) → (k < n → P k) → (t : ℕ) → t < n → P t
each_tick P n k other same t h =
    elim (eqb_tells t k) [
      | inl w ↦ subst P (sym w.1) (same (subst (λ x. x < n) w.1 h))
      | inr w ↦ other t h w.1
    ]

-- a tick's number follows the cell of a slot by f: it still does where both are written
pub column_step : (f : ℕ → ℕ) (olds cells was now : List ℕ) (n k s v w : ℕ) → k * 8 + s < length cells → k < length now →
    ((t : ℕ) → t < n → get_or now t 0 + f (get_or olds (t * 8 + s) 0) ≡ get_or was t 0 + f (get_or cells (t * 8 + s) 0)) →
    get_or cells (k * 8 + s) 0 ≡ get_or olds (k * 8 + s) 0 →
    w + f (get_or cells (k * 8 + s) 0) ≡ get_or now k 0 + f v →
    (t : ℕ) → t < n → get_or (set now k w) t 0 + f (get_or olds (t * 8 + s) 0) ≡ get_or was t 0 + f (get_or (set cells (k * 8 + s) v) (t * 8 + s) 0)
column_step f olds cells was now n k s v w room within follows same step =
    each_tick (λ t. get_or (set now k w) t 0 + f (get_or olds (t * 8 + s) 0) ≡ get_or was t 0 + f (get_or (set cells (k * 8 + s) v) (t * 8 + s) 0)) n k
    (λ t h ne. ap (λ x. x + f (get_or olds (t * 8 + s) 0)) (here_only now t k w ne) ∙ follows t h ∙ ap (λ x. get_or was t 0 + f x) (sym (other_tick cells t k s v ne)))
    (λ h.
    let before = follows k h in
    let alike = ap f same in
    let first = get_or-set_same now k w 0 within in
    let cell = ap f (get_or-set_same cells (k * 8 + s) v 0 room) in
    omega (arith, before, alike, first, cell, step))

-- a bound on the cells of a slot
pub cells_step : (cells : List ℕ) (n k s v b c : ℕ) → k * 8 + s < length cells → ((t : ℕ) → t < n → get_or cells (t * 8 + s) 0 ≤ b) → b ≤ c → v ≤ c →
    (t : ℕ) → t < n → get_or (set cells (k * 8 + s) v) (t * 8 + s) 0 ≤ c
cells_step cells n k s v b c room below up here =
    each_tick (λ t. get_or (set cells (k * 8 + s) v) (t * 8 + s) 0 ≤ c) n k
    (λ t h ne. let e = other_tick cells t k s v ne in let l = below t h in omega (arith, e, l))
    (λ h. let e = get_or-set_same cells (k * 8 + s) v 0 room in omega (arith, e))

pub ticks_step : (now : List ℕ) (n k v b c : ℕ) → k < length now → ((t : ℕ) → t < n → get_or now t 0 ≤ b) → b ≤ c → v ≤ c →
    (t : ℕ) → t < n → get_or (set now k v) t 0 ≤ c
ticks_step now n k v b c room below up here =
    each_tick (λ t. get_or (set now k v) t 0 ≤ c) n k
    (λ t h ne. let e = here_only now t k v ne in let l = below t h in omega (arith, e, l))
    (λ h. let e = get_or-set_same now k v 0 room in omega (arith, e))

pub lt_or_le : (a b : ℕ) → (a < b) ⊎ (b ≤ a)
lt_or_le a zero = inr (omega arith)
lt_or_le zero (suc b) = inl (omega arith)
lt_or_le (suc a) (suc b) = elim (lt_or_le a b) [ inl h ↦ inl (omega arith) | inr h ↦ inr (omega arith) ]
