-- The weights of a leaf: what is read is spelled so, and is read again.
use Rattle.std.proofs.Common.{◌≡◌, ℕ, ◌+◌, ◌≤◌, Bool, true, false, not, ◌&&◌, ◌==◌, cond, nat_le, List, [], ◌∷◌, ◌++◌, length, Ok, refl, sym, subst, arith}
use Rattle.std.specs.List.{flat_map, AllByRecursion}
use Rattle.std.specs.Fmt.{decimal}
use Rattle.std.proofs.lemmas.Bool.{and_parts}
use Rattle.std.proofs.lemmas.Bool.Decides.{nat_tests}
use Rattle.std.proofs.lemmas.List.{length_push}
use Rattle.ec_cert_text.specs.Reading.{are_numbers, space_count, weights_in}
use Rattle.ec_cert.specs.WellFormed.{AreWeights}
use Rattle.ec_cert_text.specs.Text.{index_word}
use Rattle.ec_cert_text.proofs.WordLaws.{if_ok, lacks, decimal_lacks}
use Rattle.ec_cert_text.proofs.ManyLaws.{All-from_Rec, Rec-from_All}
use Rattle.ec_cert_text.proofs.HeadLaws.{first_word, IsBelow, word_text, indexes_found, indexes_again, are_numbers_again, words_shift, words_lack, last_of, Below-parts}

-- ---- spaces

none_step : (b : ℕ) (bs : List ℕ) (t : Bool) → (b == 32) ≡ t → (not t && lacks 32 bs) ≡ true → (lacks 32 bs ≡ true → space_count bs ≡ 0) → cond t (1 + space_count bs) (space_count bs) ≡ 0
none_step b bs true is h ih = absurd cc
none_step b bs false is h ih = ih h

space_count-lacks : (bs : List ℕ) → lacks 32 bs ≡ true → space_count bs ≡ 0
space_count-lacks [] h = refl
space_count-lacks (b ∷ bs) h = none_step b bs (b == 32) refl h (space_count-lacks bs)

append_step : (t : Bool) (n k m : ℕ) → n ≡ k + m → cond t (1 + n) n ≡ cond t (1 + k) k + m
append_step true n k m e = omega arith
append_step false n k m e = e

space_count-append : (xs ys : List ℕ) → space_count (xs ++ ys) ≡ space_count xs + space_count ys
space_count-append [] ys = omega arith
space_count-append (b ∷ xs) ys = append_step (b == 32) (space_count (xs ++ ys)) (space_count xs) (space_count ys) (space_count-append xs ys)

no_space : (i : ℕ) → i ≤ 65535 → space_count (decimal i) ≡ 0
no_space i h = space_count-lacks (decimal i) (decimal_lacks 32 i (omega arith) (omega arith))

pub spaces_between : (is : List ℕ) (last : ℕ) → AllByRecursion (IsBelow 65535) is → last ≤ 65535 → space_count (flat_map first_word is ++ decimal last) ≡ length is
spaces_between [] last h l = no_space last l
spaces_between (i ∷ is) last h l =
    let rest = flat_map first_word is ++ decimal last in
    let parts : space_count (decimal i ++ 32 ∷ rest) ≡ space_count (decimal i) + (1 + space_count rest) = space_count-append (decimal i) (32 ∷ rest) in
    rw (word_text i is (decimal last)) (omega (arith, parts, no_space i h.0, spaces_between is last h.1 l))

-- ---- weights

pub weights_found : (n : ℕ) (text w : List ℕ) → weights_in n text ≡ Ok w → AreWeights w × (32 ∷ text ≡ flat_map index_word w)
unfolding weights_in
weights_found n text w h =
    let (tests, read) = if_ok _ _ _ w h in
    let (few, digits) = and_parts (nat_le (space_count text) 1023) (are_numbers (space_count text) text) tests in
    let most : space_count text ≤ 1023 = grind (arith, nat_tests) in
    let (below, count, spelled) = indexes_found n (space_count text) 65535 text w (omega arith) read in
    (record { least = omega arith; most = omega arith; each = All-from_Rec (IsBelow 65535) w below }, spelled)

-- a text without its first space that is read as these weights
pub record IsReadAgain (n : ℕ) (w : List ℕ) : Type 0 where
  pub text : List ℕ
  pub spelled : 32 ∷ text ≡ flat_map index_word w
  pub read : weights_in n text ≡ Ok w

last_again : (n : ℕ) (is : List ℕ) (last : ℕ) → length (is ++ last ∷ []) ≤ 1024 → AllByRecursion (IsBelow 65535) (is ++ last ∷ []) → IsReadAgain n (is ++ last ∷ [])
unfolding weights_in
last_again n is last most h =
    let parts = Below-parts 65535 is last h in
    let text = flat_map first_word is ++ decimal last in
    let count : space_count text ≡ length is = spaces_between is last parts.0 parts.1 in
    let few : nat_le (length is) 1023 ≡ true = grind (arith, nat_tests, length_push is last) in
    let digits : are_numbers (length is) text ≡ true = are_numbers_again 65535 is last (omega arith) parts.0 parts.1 in
    record { text = text; spelled = words_shift is last; read = rw (count, few, digits) (indexes_again n 65535 is last (omega arith) parts.0 parts.1) }

pub weights_again : (n : ℕ) (w : List ℕ) → AreWeights w → IsReadAgain n w
weights_again n [] f = absurd (omega (arith, f.least))
weights_again n (x ∷ xs) f =
    let l = last_of x xs in
    let all = l.front ++ l.last ∷ [] in
    let most : length all ≤ 1024 = subst (λ o. length o ≤ 1024) l.is f.most in
    let below : AllByRecursion (IsBelow 65535) all = subst (λ o. AllByRecursion (IsBelow 65535) o) l.is (Rec-from_All (IsBelow 65535) (x ∷ xs) f.each) in
    subst (IsReadAgain n) (sym l.is) (last_again n l.front l.last most below)

pub weights_lack : (w : List ℕ) → AreWeights w → lacks 10 (flat_map index_word w) ≡ true
weights_lack w f = words_lack 65535 w (omega arith) (Rec-from_All (IsBelow 65535) w f.each)
