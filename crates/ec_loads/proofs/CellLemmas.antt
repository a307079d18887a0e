-- The cells of a table.
use Rattle.std.proofs.Common.{◌≡◌, ℕ, zero, suc, mul-suc, ◌+◌, ◌-◌, ◌*◌, ◌/◌, ◌%◌, ◌<◌, ◌≤◌, max, cond, inl, inr, refl, sym, ap, ◌∙◌, arith}
use Rattle.std.proofs.Math.Nat.{mod-add-div, lt_of_mul-lt-mul_left}
use Rattle.std.proofs.lemmas.Bool.Decides.{eqb_tells}
use Rattle.ec_wire.specs.Wire.{wire_of, raw_of}
use Rattle.ec_loads.specs.Table.{cell_cost, cell_raw}

-- two ticks of one remainder that are less than a period apart are one
pub one_remainder : (p a b : ℕ) → a % p ≡ b % p → a ≤ b → b < a + p → a ≡ b
one_remainder p a b e low high =
    let x = mod-add-div a p in
    let y = mod-add-div b p in
    let sx : p * suc (a / p) ≡ p * (a / p) + p = mul-suc p (a / p) in
    let sy : p * suc (b / p) ≡ p * (b / p) + p = mul-suc p (b / p) in
    let up = lt_of_mul-lt-mul_left p {m = b / p} {n = suc (a / p)} (omega (arith, x, y, sx, e)) in
    let down = lt_of_mul-lt-mul_left p {m = a / p} {n = suc (b / p)} (omega (arith, x, y, sy, e)) in
    let same : a / p ≡ b / p = omega arith in
    sym x ∙ ap (λ w. w + p * (a / p)) e ∙ ap (λ w. b % p + p * w) same ∙ y

pub cell_raw-zero : cell_raw 0 ≡ 0
unfolding cell_raw
cell_raw-zero = refl

pub cell_cost-zero : cell_cost 0 ≡ 0
unfolding cell_cost
cell_cost-zero = refl

pub cell_raw-some : (q : ℕ) → 0 < q → cell_raw q ≡ 40 + q
unfolding cell_raw
cell_raw-some q h =
    elim (eqb_tells q 0) [
      | inl w ↦ let e = w.1 in absurd (omega (arith, e))
      | inr w ↦ ap (λ b. cond b 0 (raw_of (2 + q))) w.0 ∙ omega arith
    ]

pub cell_cost-some : (q : ℕ) → 0 < q → cell_cost q ≡ max 84 (40 + q)
unfolding cell_cost
cell_cost-some q h =
    elim (eqb_tells q 0) [
      | inl w ↦ let e = w.1 in absurd (omega (arith, e))
      | inr w ↦ ap (λ b. cond b 0 (wire_of (2 + q))) w.0 ∙ omega arith
    ]

pub cell_raw-le : (q : ℕ) → cell_raw q ≤ q + 40
cell_raw-le zero = let e = cell_raw-zero in omega (arith, e)
cell_raw-le (suc q) = let e = cell_raw-some (suc q) (omega arith) in omega (arith, e)

pub cell_cost-le : (q : ℕ) → cell_cost q ≤ q + 84
cell_cost-le zero = let e = cell_cost-zero in omega (arith, e)
cell_cost-le (suc q) = let e = cell_cost-some (suc q) (omega arith) in omega (arith, e)

-- what it costs without padding grows with the payload
pub cell_raw-more : (q b : ℕ) → cell_raw q ≤ cell_raw (q + b)
cell_raw-more zero b = let e = cell_raw-zero in omega (arith, e)
cell_raw-more (suc q) b =
    let e = cell_raw-some (suc q) (omega arith) in
    let f = cell_raw-some (suc q + b) (omega arith) in
    omega (arith, e, f)

pub cell_raw-grows : (q b : ℕ) → cell_raw (q + b) ≤ cell_raw q + b + 40
cell_raw-grows zero b =
    let e = cell_raw-zero in
    let f = cell_raw-le (zero + b) in
    omega (arith, e, f)
cell_raw-grows (suc q) b =
    let e = cell_raw-some (suc q) (omega arith) in
    let f = cell_raw-some (suc q + b) (omega arith) in
    omega (arith, e, f)

sub-zero : (b : ℕ) → 0 - b ≡ 0
sub-zero b = omega arith

pub cell_raw-less : (q b : ℕ) → cell_raw (q - b) ≤ cell_raw q
cell_raw-less zero b = let e = ap cell_raw (sub-zero b) in omega (arith, e)
cell_raw-less (suc q) b =
    let e = cell_raw-some (suc q) (omega arith) in
    let f = cell_raw-le (suc q - b) in
    omega (arith, e, f)

pub cell_cost-ge : (q : ℕ) → q ≤ cell_cost q
cell_cost-ge zero = omega arith
cell_cost-ge (suc q) = let e = cell_cost-some (suc q) (omega arith) in omega (arith, e)

-- a greater payload costs no less
pub cell_cost-more : (q r : ℕ) → q ≤ r → cell_cost q ≤ cell_cost r
cell_cost-more zero r h = let e = cell_cost-zero in omega (arith, e)
cell_cost-more (suc q) r h =
    let e = cell_cost-some (suc q) (omega arith) in
    let f = cell_cost-some r (omega arith) in
    omega (arith, e, f)
