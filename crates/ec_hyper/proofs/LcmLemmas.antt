-- The laws of the least common multiple.
use Rattle.std.proofs.Common.{◌≡◌, ℕ, zero, suc, ◌+◌, ◌-◌, ◌*◌, ◌/◌, ◌%◌, ◌<◌, ◌≤◌, ◌==◌, List, [], ◌∷◌, All, fold, sym, ap, ◌∙◌, subst, arith, inl, inr, eqb-true, mul-le-mul_left, mul-pos, take, get_or, length}
use Prim.Native.Nat.{◌∣◌}
use native.Mathlib.Nat.{dvd-mul_right, dvd-mod_iff, dvd_of_mod-eq-zero, mod-eq-zero_of_dvd, mul-div_cancel', dvd_trans, one-dvd, dvd_refl, dvd-mul_left, le_of_dvd}
use Rattle.std.proofs.lemmas.Bool.{cond_both, eqb-false, cases_eq, cases_lt}
use Rattle.std.proofs.lemmas.List.Elements.{All-head, All-tail, All-cons, All-nil, All-take}
use Rattle.std.proofs.lemmas.Nat.{mod_below}
use Rattle.std.proofs.lemmas.Nat.Gcd.{dvd_antisymm}
use Rattle.std.proofs.lemmas.List.Sums.{fold_more}
use Rattle.ec_hyper.specs.Lcm.{factor_from, lcm, lcm_of, IsLcm}

-- the factor is found where the tries reach b
pub factor-divides : (n a b k : ℕ) → n + k ≡ b → (a * factor_from n a b k) % b ≡ 0
factor-divides zero a b k e = let same : k ≡ b = omega arith in rw same (mod-eq-zero_of_dvd b (dvd-mul_left b a))
factor-divides (suc n) a b k e =
    cond_both ((a * k) % b == 0) k (factor_from n a b (suc k)) (λ w. (a * w) % b ≡ 0)
    (λ h. eqb-true _ _ h)
    (λ h. factor-divides n a b (suc k) (omega arith))

-- none before it
pub factor-least : (n a b k j : ℕ) → k ≤ j → j < factor_from n a b k → (a * j) % b ≡ 0 → ⊥
factor-least zero a b k j low high h = absurd (omega arith)
factor-least (suc n) a b k j low high h =
    cond_both ((a * k) % b == 0) k (factor_from n a b (suc k)) (λ w. j < w → ⊥)
    (λ _ l. omega arith)
    (λ no l.
    elim (cases_eq j k) [
      | inl same ↦ eqb-false _ _ no (subst (λ w. (a * w) % b ≡ 0) same h)
      | inr other ↦ factor-least n a b (suc k) j (omega arith) l h
    ])
    high

pub factor-above : (n a b k : ℕ) → k ≤ factor_from n a b k
factor-above zero a b k = omega arith
factor-above (suc n) a b k =
    cond_both ((a * k) % b == 0) k (factor_from n a b (suc k)) (λ w. k ≤ w)
    (λ _. omega arith)
    (λ _. let rest : suc k ≤ factor_from n a b (suc k) = factor-above n a b (suc k) in omega arith)

-- what the code finds is the least common multiple
pub lcm_is : (a b k : ℕ) → 0 < a → 0 < b → 0 < k → k ≤ b → (a * k) % b ≡ 0 → ((j : ℕ) → 0 < j → j < k → (a * j) % b ≡ 0 → ⊥) → a * k ≡ lcm a b
unfolding lcm
lcm_is a b k a_pos b_pos k_pos within divides none =
    let f = factor_from (b - 1) a b 1 in
    let low : 1 ≤ f = factor-above (b - 1) a b 1 in
    let same : k ≡ f =
    elim (cases_lt k f) [
      | inl less ↦ absurd (factor-least (b - 1) a b 1 k (omega arith) less divides)
      | inr more ↦ elim (cases_lt f k) [
        | inl less ↦ absurd (none f (omega arith) less (factor-divides (b - 1) a b 1 (omega arith)))
        | inr least ↦ omega arith
      ]
    ] in
    ap (λ w. a * w) same

pub lcm-pos : (a b : ℕ) → 0 < a → 0 < lcm a b
unfolding lcm
lcm-pos a b h = let low : 1 ≤ factor_from (b - 1) a b 1 = factor-above (b - 1) a b 1 in grind arith

pub dvd-lcm_left : (a b : ℕ) → a ∣ lcm a b
unfolding lcm
dvd-lcm_left a b = dvd-mul_right a _

pub dvd-lcm_right : (a b : ℕ) → 0 < b → b ∣ lcm a b
unfolding lcm
dvd-lcm_right a b h = dvd_of_mod-eq-zero b (factor-divides (b - 1) a b 1 (omega arith))

-- each common multiple is a multiple of it
pub lcm-dvd : (a b m : ℕ) → 0 < a → 0 < b → a ∣ m → b ∣ m → lcm a b ∣ m
unfolding lcm
lcm-dvd a b m a_pos b_pos am bm =
    let f = factor_from (b - 1) a b 1 in
    let low : 1 ≤ f = factor-above (b - 1) a b 1 in
    let pos : 0 < a * f = mul-pos a_pos low in
    let r = m % (a * f) in
    let small : r < a * f = mod_below m (a * f) pos in
    let ar : a ∣ r = (dvd-mod_iff a (dvd-mul_right a f)).1 am in
    let br : b ∣ r = (dvd-mod_iff b (dvd_of_mod-eq-zero b (factor-divides (b - 1) a b 1 (omega arith)))).1 bm in
    let whole : a * (r / a) ≡ r = mul-div_cancel' a ar in
    let j = r / a in
    dvd_of_mod-eq-zero (a * f) (elim (cases_eq j 0) [
      | inl none ↦ sym whole ∙ ap (λ w. a * w) none ∙ omega arith
      | inr some ↦ absurd (
          elim (cases_lt j f) [
            | inl less ↦ factor-least (b - 1) a b 1 j (omega arith) less (ap (λ w. w % b) whole ∙ mod-eq-zero_of_dvd b br)
            | inr more ↦ omega (arith, mul-le-mul_left a more)
          ])
    ])

pub lcm_of-push : (ps : List ℕ) (i : ℕ) → i < length ps → lcm_of (take (i + 1) ps) ≡ lcm (lcm_of (take i ps)) (get_or ps i 0)
unfolding lcm_of
lcm_of-push ps i h = fold_more lcm 1 ps i 0 h

-- the laws of the fold, from any number on
FoldIs : List ℕ → ℕ → Type 0
FoldIs ps a = (0 < fold lcm a ps) × (a ∣ fold lcm a ps) × All (λ p. p ∣ fold lcm a ps) ps × ((m : ℕ) → a ∣ m → All (λ p. p ∣ m) ps → fold lcm a ps ∣ m)

fold_is : (ps : List ℕ) (a : ℕ) → 0 < a → All (λ p. 0 < p) ps → FoldIs ps a
unfolding FoldIs
fold_is [] a h all = (h, dvd_refl a, All-nil _, λ m am _. am)
fold_is (p ∷ ps) a h all =
    let p_pos = All-head (λ p. 0 < p) p ps all in
    let rest = fold_is ps (lcm a p) (lcm-pos a p h) (All-tail (λ p. 0 < p) p ps all) in
    let total = fold lcm (lcm a p) ps in (
      rest.0,
      dvd_trans a (dvd-lcm_left a p) rest.1,
      All-cons (λ q. q ∣ total) p ps (dvd_trans p (dvd-lcm_right a p p_pos) rest.1) rest.2,
      λ m am each. rest.3 m (lcm-dvd a p m h p_pos am (All-head (λ q. q ∣ m) p ps each)) (All-tail (λ q. q ∣ m) p ps each),
    )

pub lcm_of-pos : (ps : List ℕ) → All (λ p. 0 < p) ps → 0 < lcm_of ps
unfolding lcm_of FoldIs
lcm_of-pos ps all = (fold_is ps 1 (omega arith) all).0

pub lcm_of-is : (ps : List ℕ) → All (λ p. 0 < p) ps → IsLcm ps (lcm_of ps)
unfolding lcm_of FoldIs
lcm_of-is ps all =
    let is = fold_is ps 1 (omega arith) all in
    record { multiple = is.2; least = λ m each. is.3 m (one-dvd m) each }

-- it grows along the list
pub lcm_of-take : (ps : List ℕ) (i : ℕ) → All (λ p. 0 < p) ps → lcm_of (take i ps) ≤ lcm_of ps
lcm_of-take ps i all =
    let part = lcm_of-is (take i ps) (All-take (λ p. 0 < p) i ps all) in
    let whole = lcm_of-is ps all in
    le_of_dvd (lcm_of-pos ps all) (part.least (lcm_of ps) (All-take (λ p. p ∣ lcm_of ps) i ps whole.multiple))

-- there is one least common multiple
pub lcm_of-only : (ps : List ℕ) (h : ℕ) → All (λ p. 0 < p) ps → IsLcm ps h → h ≡ lcm_of ps
lcm_of-only ps h all is =
    let found = lcm_of-is ps all in
    dvd_antisymm (is.least (lcm_of ps) found.multiple) (found.least h is.multiple)

-- one step of a loop over the list
pub lcm_of-step : (ps : List ℕ) (i t p r : ℕ) → i < length ps → t ≡ lcm_of (take i ps) → p ≡ get_or ps i 0 → r ≡ lcm t p → r ≡ lcm_of (take (i + 1) ps)
lcm_of-step ps i t p r within so_far item result =
    result ∙ (λ k. lcm (so_far k) (item k)) ∙ sym (lcm_of-push ps i within)

-- positive where within the range of periods
pub positive : (ps : List ℕ) → All (λ p. (1 ≤ p) × (p ≤ 60)) ps → All (λ p. 0 < p) ps
positive ps h = λ k d within. (h k d within).0
