-- Numbers, as a loop reads them.
use Rattle.std.proofs.Common.{◌≡◌, ℕ, ◌+◌, ◌*◌, ◌-◌, ◌<◌, ◌≤◌, min, List, [], ◌∷◌, length, drop, get_or, arith, inl, inr}
use Rattle.std.proofs.lemmas.List.{drop_more}
use Rattle.std.proofs.lemmas.Bool.{cases_lt}
use Rattle.ec_cert_text.specs.Reading.{value_after}

value_after_ge : (n : ℕ) (cs : List ℕ) → n ≤ value_after n cs
value_after_ge n [] = omega arith
value_after_ge n (c ∷ cs) = omega (arith, value_after_ge (10 * n + (c - 48)) cs)

capped : (n cap : ℕ) (cs : List ℕ) → min (value_after (min n cap) cs) cap ≡ min (value_after n cs) cap
capped n cap cs =
    elim (cases_lt n cap) [
      | inl lt ↦ let e : min n cap ≡ n = omega arith in rw e
      | inr le ↦ let e : min n cap ≡ cap = omega arith in rw e (omega (arith, value_after_ge cap cs, value_after_ge n cs))
    ]

pub capped_more : (n cap i : ℕ) (word : List ℕ) → i < length word
    → min (value_after (min (10 * n + (get_or word i 0 - 48)) cap) (drop (i + 1) word)) cap ≡ min (value_after n (drop i word)) cap
capped_more n cap i word h = rw (drop_more word i 0 h) (capped (10 * n + (get_or word i 0 - 48)) cap (drop (i + 1) word))
