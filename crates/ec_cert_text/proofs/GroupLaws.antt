-- The pairs of a leaf: what is read is spelled so, and is read again. They are read as their numbers, of which the laws are those of weights.
use Rattle.std.proofs.Common.{◌≡◌, ℕ, zero, suc, ◌+◌, ◌*◌, ◌%◌, ◌≤◌, true, ◌==◌, nat_le, List, [], ◌∷◌, ◌++◌, length, All, Ok, refl, sym, ap, ◌∙◌, subst, arith, append_assoc}
use Rattle.std.specs.List.{flat_map, list_all, AllByRecursion}
use Rattle.std.specs.Fmt.{decimal}
use Rattle.std.proofs.lemmas.Bool.{and_parts}
use Rattle.std.proofs.lemmas.Bool.Decides.{nat_tests}
use Rattle.std.proofs.lemmas.List.{length_push}
use Rattle.std.proofs.lemmas.List.Elements.{All-cons, All-nil, All-head, All-tail}
use Rattle.ec_loads.specs.declared.pair.Pair.{Pair}
use Rattle.ec_loads.specs.Search.{IsShortPair}
use Rattle.ec_cert.specs.WellFormed.{ArePairs}
use Rattle.ec_cert_text.specs.Reading.{are_numbers, space_count, indexes_in, pairs_of, is_room, pairs_from, is_pair_count, groups_in}
use Rattle.ec_cert_text.specs.Text.{index_word, pair_words}
use Rattle.ec_cert_text.proofs.WordLaws.{if_ok, bind_ok, lacks}
use Rattle.ec_cert_text.proofs.HeadLaws.{first_word, IsBelow, indexes_found, indexes_again, are_numbers_again, words_shift, words_lack, last_of, Below-parts}
use Rattle.ec_cert_text.proofs.WeightLaws.{spaces_between}

-- the numbers of pairs
abbrev numbers_of : List Pair → List ℕ
numbers_of [] = []
numbers_of (p ∷ ps) = p.count ∷ p.room ∷ numbers_of ps

pairs-numbers : (ps : List Pair) → pairs_of (numbers_of ps) ≡ ps
pairs-numbers [] = refl
pairs-numbers (p ∷ ps) = ap (λ l. p ∷ l) (pairs-numbers ps)

numbers-words : (ps : List Pair) → flat_map index_word (numbers_of ps) ≡ flat_map pair_words ps
numbers-words [] = refl
numbers-words (p ∷ ps) =
    ap (λ l. index_word p.count ++ (index_word p.room ++ l)) (numbers-words ps) ∙ sym (append_assoc (index_word p.count) (index_word p.room) (flat_map pair_words ps))

numbers-length : (ps : List Pair) → length (numbers_of ps) ≡ 2 * length ps
numbers-length [] = refl
numbers-length (p ∷ ps) = let rest = numbers-length ps in omega (arith, rest)

-- an even number of numbers are the numbers of their pairs
record ArePaired (is : List ℕ) : Type 0 where
  same : numbers_of (pairs_of is) ≡ is
  count : 2 * length (pairs_of is) ≡ length is

paired : (is : List ℕ) (k : ℕ) → length is ≡ 2 * k → ArePaired is
paired [] k e = record { same = refl; count = refl }
paired (a ∷ []) k e = absurd (omega (arith, e))
paired (a ∷ b ∷ is) zero e = absurd (omega (arith, e))
paired (a ∷ b ∷ is) (suc k) e =
    let rest = paired is k (omega (arith, e)) in
    record { same = ap (λ l. a ∷ b ∷ l) rest.same; count = let c = rest.count in omega (arith, c) }

short_pairs : (is : List ℕ) → AllByRecursion (IsBelow 65535) is → list_all is_room (pairs_of is) ≡ true → All IsShortPair (pairs_of is)
short_pairs [] h rooms = All-nil IsShortPair
short_pairs (a ∷ []) h rooms = All-nil IsShortPair
short_pairs (a ∷ b ∷ is) h rooms =
    let (here, rest) = and_parts (nat_le b 12304) (list_all is_room (pairs_of is)) rooms in
    let most : b ≤ 12304 = grind (arith, nat_tests, here) in
    All-cons IsShortPair (record { count = a; room = b }) (pairs_of is) (h.0, most) (short_pairs is h.1.1 rest)

pairs_from_found : (n : ℕ) (is : List ℕ) (pairs : List Pair) → pairs_from n is ≡ Ok pairs → (list_all is_room (pairs_of is) ≡ true) × (pairs_of is ≡ pairs)
pairs_from_found n is pairs h =
    let (rooms, last) = if_ok (list_all is_room (pairs_of is)) _ _ pairs h in
    (rooms, let same : pairs_of is ≡ pairs = cc (last) in same)

half : (m : ℕ) → (m % 2 == 1) ≡ true → (k : ℕ) × (m + 1 ≡ 2 * k)
half zero h = absurd cc
half (suc zero) h = (1, refl)
half (suc (suc m)) h =
    let odd : (m % 2 == 1) ≡ true = grind (arith, nat_tests, h) in
    let r = half m odd in
    (suc r.0, omega (arith, r.1))

pub groups_found : (n : ℕ) (text : List ℕ) (pairs : List Pair) → groups_in n text ≡ Ok pairs → ArePairs pairs × (32 ∷ text ≡ flat_map pair_words pairs)
unfolding groups_in
groups_found n text pairs h =
    let (tests, read) = if_ok _ _ _ pairs h in
    let (many, digits) = and_parts (is_pair_count (space_count text)) (are_numbers (space_count text) text) tests in
    let (few, odd) = and_parts (nat_le (space_count text) 95) (space_count text % 2 == 1) many in
    let most : space_count text ≤ 95 = grind (arith, nat_tests, few) in
    let (is, numbers, last) = bind_ok (indexes_in n (space_count text) 65535 text) (pairs_from n) pairs read in
    let (below, count, spelled) = indexes_found n (space_count text) 65535 text is (omega arith) numbers in
    let (rooms, same) = pairs_from_found n is pairs last in
    let k = half (space_count text) odd in
    let two = paired is k.0 (count ∙ k.1) in
    let counted = two.count in
    let low : 1 ≤ length (pairs_of is) = omega (arith, counted, count) in
    let high : length (pairs_of is) ≤ 48 = omega (arith, counted, count, most) in
    let words : 32 ∷ text ≡ flat_map pair_words (pairs_of is) = spelled ∙ ap (flat_map index_word) (sym two.same) ∙ numbers-words (pairs_of is) in
    subst (λ p. ArePairs p × (32 ∷ text ≡ flat_map pair_words p)) same (record { least = low; most = high; each = short_pairs is below rooms }, words)

-- a text without its first space that is read as these pairs
pub record IsReadAgain (n : ℕ) (pairs : List Pair) : Type 0 where
  pub text : List ℕ
  pub spelled : 32 ∷ text ≡ flat_map pair_words pairs
  pub read : groups_in n text ≡ Ok pairs

numbers_below : (ps : List Pair) → All IsShortPair ps → AllByRecursion (IsBelow 65535) (numbers_of ps)
numbers_below [] h = tt
numbers_below (p ∷ ps) h =
    let here = All-head IsShortPair p ps h in
    (here.0, (let low : p.room ≤ 65535 = omega (arith, here.1) in low, numbers_below ps (All-tail IsShortPair p ps h)))

rooms_again : (ps : List Pair) → All IsShortPair ps → list_all is_room ps ≡ true
rooms_again [] h = refl
rooms_again (p ∷ ps) h =
    let here = All-head IsShortPair p ps h in
    let room : nat_le p.room 12304 ≡ true = grind (arith, nat_tests, here.1) in
    rw (room, rooms_again ps (All-tail IsShortPair p ps h)) refl

odd_again : (m k : ℕ) → m + 1 ≡ 2 * k → (m % 2 == 1) ≡ true
odd_again zero zero e = absurd (omega (arith, e))
odd_again zero (suc k) e = absurd (omega (arith, e))
odd_again (suc zero) k e = refl
odd_again (suc (suc m)) zero e = absurd (omega (arith, e))
odd_again (suc (suc m)) (suc k) e =
    let rest = odd_again m k (omega (arith, e)) in
    grind (arith, nat_tests, rest)

last_again : (n k : ℕ) (is : List ℕ) (last : ℕ) (pairs : List Pair) → length (is ++ last ∷ []) ≡ 2 * k → k ≤ 48 → AllByRecursion (IsBelow 65535) (is ++ last ∷ []) → pairs_of (is ++ last ∷ []) ≡ pairs → list_all is_room pairs ≡ true →
    flat_map index_word (is ++ last ∷ []) ≡ flat_map pair_words pairs → IsReadAgain n pairs
unfolding groups_in
last_again n k is last pairs even most h same rooms words =
    let parts = Below-parts 65535 is last h in
    let text = flat_map first_word is ++ decimal last in
    let spaces : space_count text ≡ length is = spaces_between is last parts.0 parts.1 in
    let pushed = length_push is last in
    let few : nat_le (length is) 95 ≡ true = grind (arith, nat_tests, pushed, even, most) in
    let odd : (length is % 2 == 1) ≡ true = odd_again (length is) k (omega (arith, pushed, even)) in
    let digits : are_numbers (length is) text ≡ true = are_numbers_again 65535 is last (omega arith) parts.0 parts.1 in
    record {
      text = text;
      spelled = words_shift is last ∙ words;
      read = rw (spaces, few, odd, digits, indexes_again n 65535 is last (omega arith) parts.0 parts.1, same, rooms) refl;
    }

front_again : (n : ℕ) (x : ℕ) (xs : List ℕ) (pairs : List Pair) → numbers_of pairs ≡ x ∷ xs → length pairs ≤ 48 → All IsShortPair pairs → IsReadAgain n pairs
front_again n x xs pairs is most short =
    let l = last_of x xs in
    let all : numbers_of pairs ≡ l.front ++ l.last ∷ [] = is ∙ l.is in
    let long = numbers-length pairs in
    last_again n (length pairs) l.front l.last pairs
    (sym (ap length all) ∙ long) most
    (subst (λ o. AllByRecursion (IsBelow 65535) o) all (numbers_below pairs short))
    (ap pairs_of (sym all) ∙ pairs-numbers pairs)
    (rooms_again pairs short)
    (ap (flat_map index_word) (sym all) ∙ numbers-words pairs)

pub groups_again : (n : ℕ) (pairs : List Pair) → ArePairs pairs → IsReadAgain n pairs
groups_again n [] f = absurd (omega (arith, f.least))
groups_again n (p ∷ ps) f = front_again n p.count (p.room ∷ numbers_of ps) (p ∷ ps) refl f.most f.each

pub groups_lack : (pairs : List Pair) → ArePairs pairs → lacks 10 (flat_map pair_words pairs) ≡ true
groups_lack pairs f = ap (lacks 10) (sym (numbers-words pairs)) ∙ words_lack 65535 (numbers_of pairs) (omega arith) (numbers_below pairs f.each)
