-- Words, lines and numbers: what is read is spelled so, and is read again.
-- For each line there are two laws: `X_found` (what is read is spelled so) and `X_again` (what is spelled so is read).
use Rattle.std.proofs.Common.{◌≡◌, ◌⊎◌, ℕ, ◌+◌, ◌^◌, ◌<◌, ◌≤◌, Bool, true, false, not, ◌&&◌, ◌||◌, ◌==◌, cond, nat_eq, List, [], ◌∷◌, ◌++◌, length, take, drop, get_or, Option, Some, None, option_map, Result, Ok, Err, refl, ap, sym, ◌∙◌, arith, rules, inl, inr}
use Rattle.std.specs.List.{starts_with}
use Rattle.std.specs.Str.{all_ascii_digits, bytes_eq}
use Rattle.std.specs.Fmt.{decimal}
use Rattle.std.proofs.lemmas.Str.Parse.{IsNumeralModel, numerals_by_fold}
use Rattle.std.proofs.lemmas.Fmt.{decimal-digits_value, digits_decimal, digits_value-decimal, decimal_nonempty, first_decimal, decimal_digit}
use Rattle.std.proofs.lemmas.Bool.{cases_lt, and_parts, false≢true}
use Rattle.std.proofs.lemmas.Bool.Decides.{nat_tests}
use Rattle.std.proofs.lemmas.List.{take-append-drop}
use Rattle.std.proofs.lemmas.Slice.Eq.{bytes_eq-Decides}
use Rattle.ec_cert_text.specs.declared.words.Wrong.{Wrong}
use Rattle.ec_cert_text.specs.declared.fault.CertFault.{CertFault}
use Rattle.ec_cert_text.specs.Reading.{◌>>=◌, At, cut, line_from, line_at, value, value_after, has_leading_zero, is_between, is_number, number_in, pair_from, pair_in, ok_map, on_line}

-- ---- tests and steps

or_parts : (a b : Bool) → (a || b) ≡ false → (a ≡ false) × (b ≡ false)
or_parts true b h = absurd (false≢true (sym h))
or_parts false b h = (refl, h)

not_false : (b : Bool) → not b ≡ false → b ≡ true
not_false true h = refl
not_false false h = absurd (false≢true (sym h))

pub if_err : {A E : Type 0} (b : Bool) (e : E) (r : Result A E) (x : A) → cond b (Err e) r ≡ Ok x → (b ≡ false) × (r ≡ Ok x)
if_err true e r x h = absurd cc
if_err false e r x h = (refl, h)

-- a test that must hold
pub if_ok : {A E : Type 0} (b : Bool) (e : E) (r : Result A E) (x : A) → cond b r (Err e) ≡ Ok x → (b ≡ true) × (r ≡ Ok x)
if_ok true e r x h = (refl, h)
if_ok false e r x h = absurd cc

pub bind_ok : {A B E : Type 0} (r : Result A E) (f : A → Result B E) (y : B) → (r >>= f) ≡ Ok y → (x : A) × (r ≡ Ok x) × (f x ≡ Ok y)
bind_ok (Ok x) f y e = (x, refl, e)
bind_ok (Err d) f y e = absurd cc

pub chosen : {A : Type 0} (b : Bool) (x y z : A) → cond b x y ≡ z → ((b ≡ true) × (x ≡ z)) ⊎ ((b ≡ false) × (y ≡ z))
chosen true x y z e = inl (refl, e)
chosen false x y z e = inr (refl, e)

pub ok_map_ok : {A B E : Type 0} (f : A → B) (r : Result A E) (y : B) → ok_map f r ≡ Ok y → (x : A) × (r ≡ Ok x) × (f x ≡ y)
ok_map_ok f (Ok x) y e = (x, refl, cc)
ok_map_ok f (Err d) y e = absurd cc

pub on_line_ok : {A : Type 0} (n : ℕ) (r : Result A Wrong) (y : A) → on_line n r ≡ Ok y → r ≡ Ok y
on_line_ok n (Ok x) y e = cc
on_line_ok n (Err w) y e = absurd cc

-- ---- the first such byte

abbrev pub lacks : ℕ → List ℕ → Bool
lacks byte [] = true
lacks byte (b ∷ bs) = not (b == byte) && lacks byte bs

pub lacks-append : (byte : ℕ) (xs ys : List ℕ) → lacks byte xs ≡ true → lacks byte ys ≡ true → lacks byte (xs ++ ys) ≡ true
lacks-append byte [] ys h k = k
lacks-append byte (b ∷ xs) ys h k =
    let parts = and_parts (not (b == byte)) (lacks byte xs) h in
    rw (parts.0, lacks-append byte xs ys parts.1 k) refl

cut_step : (byte b : ℕ) (bs : List ℕ) (t : Bool) (o : Option (List ℕ × List ℕ)) (x : List ℕ × List ℕ) → (b == byte) ≡ t → ((y : List ℕ × List ℕ) → o ≡ Some y → bs ≡ y.0 ++ byte ∷ y.1)
    → cond t (Some ([], bs)) (option_map (λ y. (b ∷ y.0, y.1)) o) ≡ Some x → b ∷ bs ≡ x.0 ++ byte ∷ x.1
cut_step byte b bs true o x e ih h = let same : b ≡ byte = grind (arith, nat_tests) in rw same cc
cut_step byte b bs false None x e ih h = absurd cc
cut_step byte b bs false (Some y) x e ih h = let first : x.0 ≡ b ∷ y.0 = cc in let second : x.1 ≡ y.1 = cc in rw (first, second) (ap (λ l. b ∷ l) (ih y refl))

pub cut_found : (byte : ℕ) (bs : List ℕ) (x : List ℕ × List ℕ) → cut byte bs ≡ Some x → bs ≡ x.0 ++ byte ∷ x.1
cut_found byte [] x h = absurd cc
cut_found byte (b ∷ bs) x h = cut_step byte b bs (b == byte) (cut byte bs) x refl (cut_found byte bs) h

self_eq : (b : ℕ) → (b == b) ≡ true
self_eq b = grind (arith, nat_tests)

pub cut_again : (byte : ℕ) (x rest : List ℕ) → lacks byte x ≡ true → cut byte (x ++ byte ∷ rest) ≡ Some (x, rest)
cut_again byte [] rest h = rw (self_eq byte) refl
cut_again byte (b ∷ x) rest h =
    let parts = and_parts (not (b == byte)) (lacks byte x) h in
    let no : (b == byte) ≡ false = grind (arith, nat_tests) in
    rw (no, cut_again byte x rest parts.1) refl

-- ---- numbers

pub own : IsNumeralModel (λ ds. all_ascii_digits ds ≡ true) value
own = numerals_by_fold _ (search rules) value_after (search rules)

digits_lack : (byte : ℕ) (ds : List ℕ) → byte < 48 → all_ascii_digits ds ≡ true → lacks byte ds ≡ true
digits_lack byte [] small h = refl
digits_lack byte (c ∷ cs) small h = grind (arith, nat_tests, digits_lack byte cs small)

pub decimal_lacks : (byte n : ℕ) → byte < 48 → n < 2 ^ 64 → lacks byte (decimal n) ≡ true
decimal_lacks byte n small h = digits_lack byte (decimal n) small (digits_decimal own n h)

pub number_found : (low high : ℕ) (word : List ℕ) (n : ℕ) → high < 1000000 → number_in low high word ≡ Ok n → (word ≡ decimal n) × (low ≤ n) × (n ≤ high)
unfolding number_in
number_found low high word n small h =
    let one = if_err _ _ _ _ h in
    let two = if_err _ _ _ _ one.1 in
    let words = or_parts (length word == 0) (not (all_ascii_digits word)) one.0 in
    let ranges = or_parts (has_leading_zero word) (not (is_between low high (value word))) two.0 in
    let digits : all_ascii_digits word ≡ true = not_false _ words.1 in
    let between : is_between low high (value word) ≡ true = not_false _ ranges.1 in
    let some : 0 < length word = grind (arith, nat_tests, words.0) in
    let low_le : low ≤ value word = grind (arith, nat_tests, between) in
    let high_le : value word ≤ high = grind (arith, nat_tests, between) in
    let lead : get_or word 0 0 ≡ 48 → length word ≡ 1 = λ z. grind (arith, nat_tests, ranges.0) in
    let same : value word ≡ n = cc (two.1) in
    let back : decimal (value word) ≡ word = decimal-digits_value own word digits some lead (omega arith) in
    (sym back ∙ ap decimal same, omega arith, omega arith)

zero_text : decimal 0 ≡ 48 ∷ []
zero_text = decimal_digit 0 (omega arith)

no_leading : (n : ℕ) → n < 2 ^ 64 → has_leading_zero (decimal n) ≡ false
no_leading n h =
    elim (cases_lt 0 n) [
      | inl lt ↦ let big : 48 < get_or (decimal n) 0 0 = first_decimal n lt h in grind (arith, nat_tests)
      | inr le ↦ let e : n ≡ 0 = omega arith in rw (e, zero_text) refl
    ]

pub is_number-decimal : (n : ℕ) → n < 2 ^ 64 → is_number (decimal n) ≡ true
is_number-decimal n fits =
    let digits : all_ascii_digits (decimal n) ≡ true = digits_decimal own n fits in
    let some : (length (decimal n) == 0) ≡ false = grind (arith, nat_tests, decimal_nonempty n fits) in
    rw (some, digits) refl

pub number_again : (low high n : ℕ) → high < 1000000 → low ≤ n → n ≤ high → number_in low high (decimal n) ≡ Ok n
unfolding number_in
number_again low high n small l h =
    let fits : n < 2 ^ 64 = omega arith in
    let digits : all_ascii_digits (decimal n) ≡ true = digits_decimal own n fits in
    let back : value (decimal n) ≡ n = digits_value-decimal own n fits in
    let some : (length (decimal n) == 0) ≡ false = grind (arith, nat_tests, decimal_nonempty n fits) in
    let lead = no_leading n fits in
    let between : is_between low high n ≡ true = grind (arith, nat_tests) in
    rw (some, digits, lead, back, between) refl

pair_step : (low high0 high1 : ℕ) (text : List ℕ) (o : Option (List ℕ × List ℕ)) (n : ℕ × ℕ) → high0 < 1000000 → high1 < 1000000 → cut 32 text ≡ o → pair_from low high0 high1 o ≡ Ok n
    → (text ≡ decimal n.0 ++ 32 ∷ decimal n.1) × ((low ≤ n.0) × (n.0 ≤ high0)) × ((low ≤ n.1) × (n.1 ≤ high1))
pair_step low high0 high1 text None n s0 s1 c h = absurd cc
pair_step low high0 high1 text (Some w) n s0 s1 c h =
    let (digits, next) = if_ok (is_number w.1) _ _ n h in
    let (a, read_a, then) = bind_ok (number_in low high0 w.0) _ n next in
    let (b, read_b, last) = bind_ok (number_in low high1 w.1) (λ b. Ok (a, b)) n then in
    let same : (a, b) ≡ n = cc (last) in
    let (text_a, low_a, high_a) = number_found low high0 w.0 a s0 read_a in
    let (text_b, low_b, high_b) = number_found low high1 w.1 b s1 read_b in
    rw (← same) (cut_found 32 text w c ∙ ap (λ l. l ++ 32 ∷ w.1) text_a ∙ ap (λ l. decimal a ++ 32 ∷ l) text_b, (low_a, high_a), (low_b, high_b))

pub pair_found : (low high0 high1 : ℕ) (text : List ℕ) (n : ℕ × ℕ) → high0 < 1000000 → high1 < 1000000 → pair_in low high0 high1 text ≡ Ok n
    → (text ≡ decimal n.0 ++ 32 ∷ decimal n.1) × ((low ≤ n.0) × (n.0 ≤ high0)) × ((low ≤ n.1) × (n.1 ≤ high1))
unfolding pair_in
pair_found low high0 high1 text n s0 s1 h = pair_step low high0 high1 text (cut 32 text) n s0 s1 refl h

pub pair_again : (low high0 high1 a b : ℕ) → high0 < 1000000 → high1 < 1000000 → low ≤ a → a ≤ high0 → low ≤ b → b ≤ high1 → pair_in low high0 high1 (decimal a ++ 32 ∷ decimal b) ≡ Ok (a, b)
unfolding pair_in
pair_again low high0 high1 a b s0 s1 la ha lb hb =
    rw (cut_again 32 (decimal a) (decimal b) (decimal_lacks 32 a (omega arith) (omega arith)), is_number-decimal b (omega arith), number_again low high0 a s0 la ha, number_again low high1 b s1 lb hb) refl

-- ---- lines

pub begins : (line front : List ℕ) → starts_with nat_eq line front ≡ true → line ≡ front ++ drop (length front) line
begins line front h =
    sym (take-append-drop (length front) line) ∙ ap (λ l. l ++ drop (length front) line) (sym ((bytes_eq-Decides front (take (length front) line)).0 h))

pub same_bytes : (xs ys : List ℕ) → bytes_eq xs ys ≡ true → xs ≡ ys
same_bytes xs ys h = (bytes_eq-Decides xs ys).0 h

line_from_ok : (n : ℕ) (o : Option (List ℕ × List ℕ)) (l : List ℕ × At) → line_from n o ≡ Ok l → (o ≡ Some (l.0, l.1.rest))
line_from_ok n None l e = absurd cc
line_from_ok n (Some x) l e =
    let is : (x.0, record { line = n + 1; rest = x.1 }) ≡ l = cc in
    ap (λ (y : List ℕ × At). Some (y.0, y.1.rest)) is

pub line_found : (p : At) (l : List ℕ × At) → line_at p ≡ Ok l → p.rest ≡ l.0 ++ 10 ∷ l.1.rest
unfolding line_at
line_found p l e = cut_found 10 p.rest (l.0, l.1.rest) (line_from_ok p.line (cut 10 p.rest) l e)

pub line_again : (n : ℕ) (x rest : List ℕ) → lacks 10 x ≡ true → line_at (record { line = n; rest = x ++ 10 ∷ rest }) ≡ Ok (x, record { line = n + 1; rest = rest })
unfolding line_at
line_again n x rest h = rw (cut_again 10 x rest h) refl

-- a line with what it says
abbrev pub one_line : {A : Type 0} → (List ℕ → Result A Wrong) → At → Result (A × At) CertFault
one_line f p = line_at p >>= (λ l. on_line p.line (f l.0) >>= (λ x. Ok (x, l.1)))

pub one_line_found : {A : Type 0} (f : List ℕ → Result A Wrong) (p : At) (x : A × At) → one_line f p ≡ Ok x → (line : List ℕ) × (f line ≡ Ok x.0) × (p.rest ≡ line ++ 10 ∷ x.1.rest)
one_line_found f p x h =
    let (l, read, then) = bind_ok (line_at p) _ x h in
    let (a, said, last) = bind_ok (on_line p.line (f l.0)) (λ a. Ok (a, l.1)) x then in
    let same : (a, l.1) ≡ x = cc (last) in
    rw (← same) (l.0, on_line_ok p.line (f l.0) a said, line_found p l read)

pub one_line_again : {A : Type 0} (f : List ℕ → Result A Wrong) (n : ℕ) (line : List ℕ) (a : A) (rest : List ℕ) → lacks 10 line ≡ true → f line ≡ Ok a → one_line f (record { line = n; rest = line ++ 10 ∷ rest }) ≡ Ok (a, record { line = n + 1; rest = rest })
one_line_again f n line a rest h e = rw (line_again n line rest h, e) refl
