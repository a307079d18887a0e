-- How long the texts of a key and of a number are, and parts that are joined.
-- `key_fits` is the one bound that isn't found by itself. More than three pushes in one function leave a goal that
-- `simp append_assoc` closes (`behind_six`).
use Rattle.std.proofs.Common.{◌≡◌, ℕ, ◌≤◌, ◌<◌, ◌^◌, List, ◌++◌, append_assoc, length, true, false, ◌∙◌, arith}
use Rattle.std.specs.Fmt.{decimal}
use Rattle.std.proofs.lemmas.Fmt.{length-decimal-le}
use Rattle.ec_unit_text.specs.declared.fault.Key.{Key}
use Rattle.ec_unit_text.specs.declared.fault.Key.TheVariants as key
use Rattle.ec_unit_text.specs.FaultText.{key_text}

pub key_fits : (k : Key) → length (key_text k) ≤ 9
unfolding key_text
key_fits key.TickNs = omega arith
key_fits key.Slots = omega arith
key_fits key.Unit = omega arith
key_fits key.Name = omega arith
key_fits key.Period = omega arith
key_fits key.Slave = omega arith
key_fits key.Phase = omega arith
key_fits key.Slot = omega arith
key_fits key.Station = omega arith
key_fits key.OutBytes = omega arith
key_fits key.InBytes = omega arith
key_fits (key.Area false) = omega arith
key_fits (key.Area true) = omega arith

-- the digits of a number of 16 bits
pub short_fits : (n : ℕ) → n < 65536 → length (decimal n) ≤ 5
short_fits n h = length-decimal-le 5 n (omega arith) (omega (arith, h)) (omega (arith, h))

-- what is added behind parts
pub behind_two : (o n f r p q : List ℕ) → p ≡ o ++ (n ++ f) → q ≡ p ++ r → q ≡ o ++ (n ++ (f ++ r))
behind_two o n f r p q h k =
    let all : q ≡ (o ++ (n ++ f)) ++ r = cc in
    all ∙ (simp append_assoc)

pub behind_six : (o n t a s b d r p q : List ℕ) → p ≡ o ++ (n ++ (t ++ (a ++ (s ++ (b ++ d))))) → q ≡ p ++ r → q ≡ o ++ (n ++ (t ++ (a ++ (s ++ (b ++ (d ++ r))))))
behind_six o n t a s b d r p q h k =
    let all : q ≡ (o ++ (n ++ (t ++ (a ++ (s ++ (b ++ d)))))) ++ r = cc in
    all ∙ (simp append_assoc)
