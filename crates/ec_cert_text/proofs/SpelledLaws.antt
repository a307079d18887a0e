-- Numbers at the head of a text, as one walk over its bytes reads them.
use Rattle.std.proofs.Common.{◌≡◌, ℕ, ◌+◌, ◌*◌, ◌-◌, ◌^◌, ◌<◌, ◌≤◌, true, List, [], ◌∷◌, ◌++◌, length, take, drop, get_or, refl, ap, sym, ◌∙◌, arith, take-suc, drop-cons, add-one}
use Rattle.std.specs.Str.{all_ascii_digits}
use Rattle.std.specs.Fmt.{decimal}
use Rattle.std.proofs.lemmas.Bool.Decides.{nat_tests}
use Rattle.std.proofs.lemmas.List.{take-append-drop, get_or-take}
use Rattle.std.proofs.lemmas.Fmt.{decimal-digits_value}
use Rattle.std.proofs.lemmas.Grind.{common_steps}
use Rattle.ec_cert_text.specs.Reading.{value, value_after}
use Rattle.ec_cert_text.proofs.WordLaws.{own}

value_push : (n : ℕ) (xs : List ℕ) (c : ℕ) → value_after n (xs ++ c ∷ []) ≡ 10 * value_after n xs + (c - 48)
value_push n [] c = refl
value_push n (x ∷ xs) c = value_push (10 * n + (x - 48)) xs c

digits_push : (xs : List ℕ) (c : ℕ) → all_ascii_digits xs ≡ true → 48 ≤ c → c ≤ 57 → all_ascii_digits (xs ++ c ∷ []) ≡ true
digits_push [] c h low high = grind (arith, nat_tests)
digits_push (x ∷ xs) c h low high = grind (arith, nat_tests, digits_push xs c)

pub value_more : (i : ℕ) (text : List ℕ) → i < length text → value (take (i + 1) text) ≡ 10 * value (take i text) + (get_or text i 0 - 48)
value_more i text lt = rw (add-one, take-suc text i 0 lt) (value_push 0 (take i text) (get_or text i 0))

pub digits_more : (i : ℕ) (text : List ℕ) → i < length text → all_ascii_digits (take i text) ≡ true → 48 ≤ get_or text i 0 → get_or text i 0 ≤ 57 → all_ascii_digits (take (i + 1) text) ≡ true
digits_more i text lt h low high = rw (add-one, take-suc text i 0 lt) (digits_push (take i text) (get_or text i 0) h low high)

-- digits with no leading zero are the decimal number that they are
pub number_spelled : (i end n : ℕ) (text : List ℕ) → i < length text → 0 < i → all_ascii_digits (take i text) ≡ true → (get_or text 0 0 ≡ 48 → i ≡ 1) → value (take i text) ≡ n → n < 2 ^ 64 → get_or text i 0 ≡ end
    → text ≡ decimal n ++ end ∷ take (length text - (i + 1)) (drop (i + 1) text)
number_spelled i end n text lt some digits lead is small ends =
    let first : get_or (take i text) 0 0 ≡ get_or text 0 0 = get_or-take i text 0 0 some in
    let count : length (take i text) ≡ i = grind (arith, common_steps) in
    let zero : get_or (take i text) 0 0 ≡ 48 → length (take i text) ≡ 1 = λ z. count ∙ lead (sym first ∙ z) in
    let back : decimal (value (take i text)) ≡ take i text = decimal-digits_value own (take i text) digits (omega arith) zero (omega arith) in
    let same : decimal n ≡ take i text = ap decimal (sym is) ∙ back in
    let last : drop i text ≡ end ∷ drop (i + 1) text = rw (add-one, ← ends) (drop-cons text i 0 lt) in
    let whole : take (length text - (i + 1)) (drop (i + 1) text) ≡ drop (i + 1) text = grind (arith, common_steps) in
    rw (whole, same, ← last) (sym (take-append-drop i text))
