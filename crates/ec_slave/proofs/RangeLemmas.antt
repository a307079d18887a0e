-- A test of numbers below a bound.
use Rattle.std.proofs.Common.{◌≡◌, ℕ, ◌+◌, ◌<◌, Bool, true, false, get_or, arith, ap, ◌∙◌}
use Rattle.std.specs.List.{range_with_len, list_any}
use Rattle.std.proofs.lemmas.List.Folds.{list_any_at, list_any_none}
use Rattle.std.proofs.lemmas.List.FromFn.{length-range_with_len, get_or-range_with_len}

place : (n k d : ℕ) → k < n → get_or (range_with_len 0 n) k d ≡ k
place n k d h = let e : get_or (range_with_len 0 n) k d ≡ 0 + k = get_or-range_with_len 0 n k d h in omega (arith, e)

pub any_at : (p : ℕ → Bool) (n k : ℕ) → k < n → p k ≡ true → list_any p (range_with_len 0 n) ≡ true
any_at p n k h t = list_any_at p (range_with_len 0 n) k 0 (omega (arith, length-range_with_len 0 n)) (ap p (place n k 0 h) ∙ t)

pub any_none : (p : ℕ → Bool) (n : ℕ) → ((k : ℕ) → k < n → p k ≡ false) → list_any p (range_with_len 0 n) ≡ false
any_none p n h = list_any_none p (range_with_len 0 n) (λ i d l. let below : i < n = omega (arith, length-range_with_len 0 n) in ap p (place n i d below) ∙ h i below)
