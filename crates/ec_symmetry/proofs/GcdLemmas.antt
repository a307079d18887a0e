-- The greatest common divisor, and the multiples of a number that reach it modulo another.
use Rattle.std.proofs.Common.{◌≡◌, ℕ, zero, suc, ◌+◌, ◌-◌, ◌*◌, ◌%◌, ◌<◌, ◌≤◌, ◌==◌, ◌&&◌, true, sym, ap, ◌∙◌, subst, arith, inl, inr}
use Prim.Native.Nat.{◌∣◌}
use Rattle.std.specs.Int.{IsGcd}
use Rattle.std.proofs.lemmas.Bool.{cases_lt, cases_eq, eq-eqb, eqb-true, and_parts, cond_both, true≢false}
use Rattle.std.proofs.lemmas.Nat.{mul-mod_second}
use Rattle.std.proofs.lemmas.Nat.Gcd.{IsGcd-from_zero, IsGcd-swap, IsGcd-from_sub, le_from_IsGcd, le_of_dvd, dvd_of_mod-eq-zero, mod-eq-zero_of_dvd}
use Rattle.std.proofs.Math.Nat.{add-mod-mod, mod-add-mod, add-mul-mod_self_left, eq-zero_of_zero-dvd}
use Rattle.ec_loads.specs.Strong.{divides_both, greatest_divisor, gcd}

-- some multiple of a is x, modulo p
abbrev pub Reaches : ℕ → ℕ → ℕ → Type 0
Reaches a p x = (m : ℕ) × ((m * a) % p ≡ x % p)

add-alike : (a b c d p : ℕ) → a % p ≡ b % p → c % p ≡ d % p → (a + c) % p ≡ (b + d) % p
add-alike a b c d p e f =
    sym (mod-add-mod a p c) ∙ ap (λ w. (w + c) % p) e ∙ mod-add-mod b p c
    ∙ sym (add-mod-mod b c p) ∙ ap (λ w. (b + w) % p) f ∙ add-mod-mod b d p

mul-alike : (k a b p : ℕ) → a % p ≡ b % p → (k * a) % p ≡ (k * b) % p
mul-alike k a b p e = sym (mul-mod_second k a p) ∙ ap (λ w. (k * w) % p) e ∙ mul-mod_second k b p

one-less : (q x y : ℕ) → y ≤ x → x + q * y ≡ (x - y) + (q + 1) * y
one-less q x y h = grind arith

Reaches-sub : (a p x y : ℕ) → 0 < p → y ≤ x → Reaches a p x → Reaches a p y → Reaches a p (x - y)
Reaches-sub a p x y pos le rx ry =
    let q = p - 1 in
    let next : q + 1 ≡ p = omega arith in
    let split : (rx.0 + q * ry.0) * a ≡ rx.0 * a + q * (ry.0 * a) = grind arith in
    let both = add-alike (rx.0 * a) x (q * (ry.0 * a)) (q * y) p rx.1 (mul-alike q (ry.0 * a) y p ry.1) in
    (rx.0 + q * ry.0, ap (λ w. w % p) split ∙ both ∙ ap (λ w. w % p) (one-less q x y le ∙ ap (λ w. (x - y) + w * y) next) ∙ add-mul-mod_self_left (x - y) p y)

-- by the differences of two numbers that are reached
euclid : (a p bound x y : ℕ) → 0 < p → x + y < bound → Reaches a p x → Reaches a p y → (g : ℕ) × IsGcd x y g × Reaches a p g
euclid a p zero x y pos h rx ry = absurd (omega arith)
euclid a p (suc b) x y pos h rx ry =
    elim (cases_eq y 0) [
      | inl none ↦ (x, IsGcd-from_zero x y none, rx)
      | inr some ↦ elim (cases_eq x 0) [
        | inl none ↦ (y, IsGcd-swap y x y (IsGcd-from_zero y x none), ry)
        | inr more ↦ elim (cases_lt x y) [
          | inl less ↦
              let r = euclid a p b (y - x) x pos (omega arith) (Reaches-sub a p y x pos (omega arith) ry rx) rx in
              (r.0, IsGcd-swap y x r.0 (IsGcd-from_sub y x r.0 (omega arith) r.1), r.2)
          | inr least ↦
              let r = euclid a p b (x - y) y pos (omega arith) (Reaches-sub a p x y pos (omega arith) rx ry) ry in
              (r.0, IsGcd-from_sub x y r.0 (omega arith) r.1, r.2)
        ]
      ]
    ]

-- a greatest common divisor of a and p is a multiple of a, modulo p
divisor-reached : (a p : ℕ) → 0 < p → (g : ℕ) × IsGcd a p g × Reaches a p g
divisor-reached a p pos =
    euclid a p (suc (a + p)) a p pos (omega arith) (1, ap (λ w. w % p) (let e : 1 * a ≡ a = omega arith in e))
    (0, (let e : 0 * a ≡ 0 = omega arith in ap (λ w. w % p) e) ∙ sym (add-mul-mod_self_left 0 p 1) ∙ ap (λ w. w % p) (let e : 0 + p * 1 ≡ p = omega arith in e))

pub IsGcd-pos : (a p g : ℕ) → 0 < p → IsGcd a p g → 0 < g
IsGcd-pos a p g pos is =
    elim (cases_eq g 0) [
      | inl none ↦ let gone : p ≡ 0 = eq-zero_of_zero-dvd (subst (λ w. w ∣ p) none is.1) in absurd (omega arith)
      | inr other ↦ omega arith
    ]

-- the search from n down ends at it
divisor-found : (n a p g : ℕ) → IsGcd a p g → 0 < g → g ≤ n → greatest_divisor n a p ≡ g
divisor-found zero a p g is pos low = absurd (omega arith)
divisor-found (suc n) a p g is pos low =
    cond_both (divides_both (suc n) a p) (suc n) (greatest_divisor n a p) (λ w. w ≡ g)
    (λ yes_both.
    let both = and_parts (a % suc n == 0) (p % suc n == 0) yes_both in
    let most = le_from_IsGcd a p g (suc n) is pos (dvd_of_mod-eq-zero (suc n) (eqb-true (a % suc n) 0 both.0)) (dvd_of_mod-eq-zero (suc n) (eqb-true (p % suc n) 0 both.1)) in
    omega (arith, most, low))
    (λ no_both.
    elim (cases_eq g (suc n)) [
      | inl at ↦
          let first : (a % suc n == 0) ≡ true = eq-eqb (a % suc n) 0 (mod-eq-zero_of_dvd (suc n) (subst (λ w. w ∣ a) at is.0)) in
          let second : (p % suc n == 0) ≡ true = eq-eqb (p % suc n) 0 (mod-eq-zero_of_dvd (suc n) (subst (λ w. w ∣ p) at is.1)) in
          absurd (true≢false (sym (λ i. first i && second i) ∙ no_both))
      | inr apart ↦ divisor-found n a p g is pos (omega (arith, low, apart))
    ])

-- there is one greatest common divisor
pub gcd-only : (a p g : ℕ) → 0 < p → IsGcd a p g → gcd a p ≡ g
unfolding gcd
gcd-only a p g pos is = divisor-found p a p g is (IsGcd-pos a p g pos is) (le_of_dvd pos is.1)

pub gcd-is : (a p : ℕ) → 0 < p → IsGcd a p (gcd a p)
gcd-is a p pos = let r = divisor-reached a p pos in subst (λ w. IsGcd a p w) (sym (gcd-only a p r.0 pos r.1)) r.1

-- and some multiple of a is it, modulo p
pub gcd-reached : (a p : ℕ) → 0 < p → Reaches a p (gcd a p)
gcd-reached a p pos = let r = divisor-reached a p pos in subst (λ w. Reaches a p w) (sym (gcd-only a p r.0 pos r.1)) r.2

-- it is from 1 to p
pub gcd-range : (a p : ℕ) → 0 < p → (0 < gcd a p) × (gcd a p ≤ p)
gcd-range a p pos = let is = gcd-is a p pos in (IsGcd-pos a p (gcd a p) pos is, le_of_dvd pos is.1)

divisor-most : (n a p : ℕ) → greatest_divisor n a p ≤ n
divisor-most zero a p = omega arith
divisor-most (suc n) a p =
    let rest = divisor-most n a p in
    cond_both (divides_both (suc n) a p) (suc n) (greatest_divisor n a p) (λ w. w ≤ suc n) (λ _. omega arith) (λ _. omega (arith, rest))

-- of any number p it is at most p
pub gcd-most : (a p : ℕ) → gcd a p ≤ p
unfolding gcd
gcd-most a p = divisor-most p a p
