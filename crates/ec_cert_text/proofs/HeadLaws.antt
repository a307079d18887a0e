-- The lines before the tree: what is read is spelled so, and is read again.
use Rattle.std.proofs.Common.{◌≡◌, ◌⊎◌, cond, ℕ, zero, suc, ◌+◌, ◌-◌, ◌^◌, ◌<◌, ◌≤◌, Bool, true, false, ◌==◌, nat_eq, nat_le, List, [], ◌∷◌, ◌++◌, length, drop, codes, Option, Some, None, Ok, refl, ap, sym, subst, ◌∙◌, arith, inl, inr, append_assoc, append-nil}
use Rattle.std.specs.List.{starts_with, flat_map, AllByRecursion, list_all}
use Rattle.std.specs.Str.{bytes_eq, all_ascii_digits}
use Rattle.std.specs.Fmt.{decimal}
use Rattle.std.proofs.lemmas.Fmt.{digits_decimal}
use Rattle.std.proofs.lemmas.Bool.{and_parts, false≢true}
use Rattle.std.proofs.lemmas.Bool.Decides.{nat_tests}
use Rattle.std.proofs.lemmas.List.{length_push}
use Rattle.ec_units.specs.Names.{is_name, is_name_byte}
use Rattle.ec_units.specs.declared.slave.Place.{Place}
use Rattle.ec_cert.specs.declared.lists.UnitLine.{UnitLine}
use Rattle.ec_cert.specs.declared.cert.Best.{Best}
use Rattle.ec_cert_text.specs.Reading.{At, cut, line_at, number_in, pair_in, ok_map, on_line, with_front, slots_in, slots_at, unit_from, unit_in, unit_at, is_unit_next, units_from, first_unit_at, units_at, are_numbers, many_from, index_from, index_in, indexes_in, order_in, order_at, place_in, place_at, value_in, best_with, best_at, level_in, level_line_at, level_or_none_in, level_or_none_at, level_at, start_at}
use Rattle.ec_cert.specs.WellFormed.{IsUnitLine, IsPlaceLine, IsBestOrNone, IsLevelLine}
use Rattle.ec_cert_text.specs.Text.{slots_line, unit_line, index_word, order_line, value_line, place_line, best_lines, level_line}
use Rattle.ec_cert_text.proofs.WordLaws.{own, if_ok, bind_ok, chosen, ok_map_ok, on_line_ok, lacks, lacks-append, cut_found, cut_again, decimal_lacks, number_found, is_number-decimal, number_again, pair_found, pair_again, begins, same_bytes, line_found, line_again, one_line_found, one_line_again}
use Rattle.ec_cert_text.proofs.ManyLaws.{many_found, many_again, All-from_Rec, Rec-from_All}

-- ---- texts regrouped

pub regroup_1 : (a rest : List ℕ) → a ++ 10 ∷ rest ≡ (a ++ 10 ∷ []) ++ rest
regroup_1 a rest = sym (append_assoc a (10 ∷ []) rest)

pub regroup_2 : (a b rest : List ℕ) → (a ++ 32 ∷ b) ++ 10 ∷ rest ≡ (a ++ (32 ∷ (b ++ 10 ∷ []))) ++ rest
regroup_2 a b rest = append_assoc a (32 ∷ b) (10 ∷ rest) ∙ ap (λ l. a ++ (32 ∷ l)) (regroup_1 b rest) ∙ sym (append_assoc a (32 ∷ (b ++ 10 ∷ [])) rest)

pub regroup_3 : (a b c rest : List ℕ) → (a ++ 32 ∷ (b ++ 32 ∷ c)) ++ 10 ∷ rest ≡ (a ++ (32 ∷ (b ++ (32 ∷ (c ++ 10 ∷ []))))) ++ rest
regroup_3 a b c rest = append_assoc a (32 ∷ (b ++ 32 ∷ c)) (10 ∷ rest) ∙ ap (λ l. a ++ (32 ∷ l)) (regroup_2 b c rest) ∙ sym (append_assoc a (32 ∷ (b ++ (32 ∷ (c ++ 10 ∷ [])))) rest)

-- ---- slots

slots_in_found : (line : List ℕ) (n : ℕ) → slots_in line ≡ Ok n → (line ≡ codes "slots " ++ decimal n) × (1 ≤ n) × (n ≤ 8)
unfolding slots_in
slots_in_found line n h =
    let (starts, read) = if_ok _ _ _ n h in
    let (text, low, high) = number_found 1 8 (drop 6 line) n (omega arith) read in
    (begins line (codes "slots ") starts ∙ ap (λ l. codes "slots " ++ l) text, low, high)

pub slots_found : (p : At) (x : ℕ × At) → slots_at p ≡ Ok x → ((1 ≤ x.0) × (x.0 ≤ 8)) × (p.rest ≡ slots_line x.0 ++ x.1.rest)
unfolding slots_at
slots_found p x h =
    let (line, said, is) = one_line_found slots_in p x h in
    let (text, low, high) = slots_in_found line x.0 said in
    ((low, high), is ∙ ap (λ l. l ++ 10 ∷ x.1.rest) text ∙ ap (λ l. codes "slots " ++ l) (regroup_1 (decimal x.0) x.1.rest))

slots_in_again : (n : ℕ) → 1 ≤ n → n ≤ 8 → slots_in (codes "slots " ++ decimal n) ≡ Ok n
unfolding slots_in
slots_in_again n l h = number_again 1 8 n (omega arith) l h

pub slots_again : (k n : ℕ) (rest : List ℕ) → 1 ≤ n → n ≤ 8 → slots_at (record { line = k; rest = slots_line n ++ rest }) ≡ Ok (n, record { line = k + 1; rest = rest })
unfolding slots_at
slots_again k n rest l h =
    let text : codes "slots " ++ (decimal n ++ 10 ∷ rest) ≡ slots_line n ++ rest = ap (λ l. codes "slots " ++ l) (regroup_1 (decimal n) rest) in
    rw (← text) (one_line_again slots_in k (codes "slots " ++ decimal n) n rest (decimal_lacks 10 n (omega arith) (omega arith)) (slots_in_again n l h))

-- ---- units

abbrev unit_words : UnitLine → List ℕ
unit_words u = u.name ++ 32 ∷ (decimal u.bytes ++ 32 ∷ decimal u.period)

unit_step : (text : List ℕ) (o : Option (List ℕ × List ℕ)) (u : UnitLine) → cut 32 text ≡ o → unit_from o ≡ Ok u → IsUnitLine u × (text ≡ unit_words u)
unit_step text None u c h = absurd cc
unit_step text (Some w) u c h =
    let (named, read) = if_ok (is_name w.0) _ _ u h in
    let (n, pair, is) = ok_map_ok _ (pair_in 1 1486 60 w.1) u read in
    let (spelled, first, second) = pair_found 1 1486 60 w.1 n (omega arith) (omega arith) pair in
    rw (← is) (record { name = named; least_bytes = first.0; most_bytes = first.1; least_period = second.0; most_period = second.1 }, cut_found 32 text w c ∙ ap (λ l. w.0 ++ 32 ∷ l) spelled)

unit_in_found : (line : List ℕ) (u : UnitLine) → unit_in line ≡ Ok u → IsUnitLine u × (line ≡ codes "unit " ++ unit_words u)
unfolding unit_in
unit_in_found line u h =
    let (starts, read) = if_ok _ _ _ u h in
    let (fits, text) = unit_step (drop 5 line) (cut 32 (drop 5 line)) u refl read in
    (fits, begins line (codes "unit ") starts ∙ ap (λ l. codes "unit " ++ l) text)

pub unit_found : (p : At) (x : UnitLine × At) → unit_at p ≡ Ok x → IsUnitLine x.0 × (p.rest ≡ unit_line x.0 ++ x.1.rest)
unfolding unit_at
unit_found p x h =
    let (line, said, is) = one_line_found unit_in p x h in
    let (fits, text) = unit_in_found line x.0 said in
    (fits, is ∙ ap (λ l. l ++ 10 ∷ x.1.rest) text ∙ ap (λ l. codes "unit " ++ l) (regroup_3 x.0.name (decimal x.0.bytes) (decimal x.0.period) x.1.rest))

byte_lacks : (byte b : ℕ) → byte < 45 → is_name_byte b ≡ true → (b == byte) ≡ false
byte_lacks byte b small h = grind (arith, nat_tests)

name_bytes_lack : (byte : ℕ) (bs : List ℕ) → byte < 45 → list_all is_name_byte bs ≡ true → lacks byte bs ≡ true
name_bytes_lack byte [] small h = refl
name_bytes_lack byte (b ∷ bs) small h =
    let parts = and_parts (is_name_byte b) (list_all is_name_byte bs) h in
    rw (byte_lacks byte b small parts.0, name_bytes_lack byte bs small parts.1) refl

pub name_lacks : (byte : ℕ) (bs : List ℕ) → byte < 45 → is_name bs ≡ true → lacks byte bs ≡ true
name_lacks byte bs small h = name_bytes_lack byte bs small (and_parts _ _ h).1

unit_in_again : (u : UnitLine) → IsUnitLine u → unit_in (codes "unit " ++ unit_words u) ≡ Ok u
unfolding unit_in
unit_in_again u f =
    rw (cut_again 32 u.name (decimal u.bytes ++ 32 ∷ decimal u.period) (name_lacks 32 u.name (omega arith) f.name), f.name, pair_again 1 1486 60 u.bytes u.period (omega arith) (omega arith) f.least_bytes f.most_bytes f.least_period f.most_period) refl

unit_lacks : (u : UnitLine) → IsUnitLine u → lacks 10 (unit_words u) ≡ true
unit_lacks u f =
    let b = decimal_lacks 10 u.bytes (omega arith) (omega (arith, f.most_bytes)) in
    let p = decimal_lacks 10 u.period (omega arith) (omega (arith, f.most_period)) in
    lacks-append 10 u.name (32 ∷ (decimal u.bytes ++ 32 ∷ decimal u.period)) (name_lacks 10 u.name (omega arith) f.name) (lacks-append 10 (decimal u.bytes) (32 ∷ decimal u.period) b p)

pub unit_again : (k : ℕ) (u : UnitLine) (rest : List ℕ) → IsUnitLine u → unit_at (record { line = k; rest = unit_line u ++ rest }) ≡ Ok (u, record { line = k + 1; rest = rest })
unfolding unit_at
unit_again k u rest f =
    let text : codes "unit " ++ (unit_words u ++ 10 ∷ rest) ≡ unit_line u ++ rest = ap (λ l. codes "unit " ++ l) (regroup_3 u.name (decimal u.bytes) (decimal u.period) rest) in
    rw (← text) (one_line_again unit_in k (codes "unit " ++ unit_words u) u rest (unit_lacks u f) (unit_in_again u f))

abbrev at_bytes : At → List ℕ
at_bytes p = p.rest

units_from_found : (n : ℕ) (p : At) (x : List UnitLine × At) → units_from n p ≡ Ok x → AllByRecursion IsUnitLine x.0 × (length x.0 ≤ n) × (p.rest ≡ flat_map unit_line x.0 ++ x.1.rest)
units_from_found zero p x e =
    let is : ([], p) ≡ x = cc in
    rw (← is) (tt, omega arith, refl)
units_from_found (suc n) p x e =
    elim (chosen (is_unit_next p) _ _ _ e) [
      | inl y ↦
          let (u, read, then) = bind_ok (unit_at p) _ x y.1 in
          let (us, reads, last) = bind_ok (units_from n u.1) (λ us. Ok (u.0 ∷ us.0, us.1)) x then in
          let is : (u.0 ∷ us.0, us.1) ≡ x = cc (last) in
          let first = unit_found p u read in
          let others = units_from_found n u.1 us reads in
          rw (← is) ((first.0, others.0), omega (arith, others.1), first.1 ∙ ap (λ l. unit_line u.0 ++ l) others.2 ∙ sym (append_assoc (unit_line u.0) (flat_map unit_line us.0) us.1.rest))
      | inr y ↦
          let is : ([], p) ≡ x = cc (y.1) in
          rw (← is) (tt, omega arith, refl)
    ]

first_found : (p : At) (x : List UnitLine × At) → first_unit_at p ≡ Ok x → (u : UnitLine) × (x.0 ≡ u ∷ []) × IsUnitLine u × (p.rest ≡ unit_line u ++ x.1.rest)
unfolding first_unit_at
first_found p x h =
    let (u, read, last) = bind_ok (unit_at p) (λ u. Ok (u.0 ∷ [], u.1)) x h in
    let is : (u.0 ∷ [], u.1) ≡ x = cc (last) in
    let (fits, text) = unit_found p u read in
    rw (← is) (u.0, refl, fits, text)

units_rest : (u : UnitLine) (front : List UnitLine) (bytes : List ℕ) (p : At) (x : List UnitLine × At) → front ≡ u ∷ [] → IsUnitLine u → bytes ≡ unit_line u ++ p.rest → with_front front (units_from 47 p) ≡ Ok x
    → AllByRecursion IsUnitLine x.0 × ((1 ≤ length x.0) × (length x.0 ≤ 48)) × (bytes ≡ flat_map unit_line x.0 ++ x.1.rest)
units_rest u front bytes p x one fits text h =
    let (us, reads, last) = bind_ok (units_from 47 p) (λ us. Ok (front ++ us.0, us.1)) x h in
    let is : (front ++ us.0, us.1) ≡ x = cc (last) in
    let is' : (u ∷ us.0, us.1) ≡ x = ap (λ l. (l ++ us.0, us.1)) (sym one) ∙ is in
    let (all, few, texts) = units_from_found 47 p us reads in
    rw (← is') ((fits, all), (omega arith, omega arith), text ∙ ap (λ l. unit_line u ++ l) texts ∙ sym (append_assoc (unit_line u) (flat_map unit_line us.0) us.1.rest))

pub units_found : (p : At) (x : List UnitLine × At) → units_at p ≡ Ok x → AllByRecursion IsUnitLine x.0 × ((1 ≤ length x.0) × (length x.0 ≤ 48)) × (p.rest ≡ flat_map unit_line x.0 ++ x.1.rest)
unfolding units_at
units_found p x e =
    let (one, first, then) = bind_ok (first_unit_at p) (λ u. with_front u.0 (units_from 47 u.1)) x e in
    let (u, single, fits, text) = first_found p one first in
    units_rest u one.0 p.rest one.1 x single fits text then

units_from_again : (n k : ℕ) (us : List UnitLine) (rest : List ℕ) → AllByRecursion IsUnitLine us → length us ≤ n → starts_with nat_eq rest (codes "unit ") ≡ false
    → (m : ℕ) × (units_from n (record { line = k; rest = flat_map unit_line us ++ rest }) ≡ Ok (us, record { line = m; rest = rest }))
units_from_again zero k [] rest f few next = (k, refl)
units_from_again zero k (u ∷ us) rest f few next = absurd (omega arith)
units_from_again (suc n) k [] rest f few next = (k, rw next refl)
units_from_again (suc n) k (u ∷ us) rest f few next =
    let (m, e) = units_from_again n (k + 1) us rest f.1 (omega arith) next in
    (m, rw (append_assoc (unit_line u) (flat_map unit_line us) rest, unit_again k u (flat_map unit_line us ++ rest) f.0, e) refl)

pub units_again : (k : ℕ) (us : List UnitLine) (rest : List ℕ) → AllByRecursion IsUnitLine us → 1 ≤ length us → length us ≤ 48 → starts_with nat_eq rest (codes "unit ") ≡ false
    → (m : ℕ) × (units_at (record { line = k; rest = flat_map unit_line us ++ rest }) ≡ Ok (us, record { line = m; rest = rest }))
unfolding units_at first_unit_at
units_again k [] rest f some few next = absurd (omega arith)
units_again k (u ∷ us) rest f some few next =
    let (m, e) = units_from_again 47 (k + 1) us rest f.1 (omega arith) next in
    (m, rw (append_assoc (unit_line u) (flat_map unit_line us) rest, unit_again k u (flat_map unit_line us ++ rest) f.0, e) refl)

-- ---- the order

-- a number and the space after it
abbrev pub first_word : ℕ → List ℕ
first_word i = decimal i ++ 32 ∷ []

abbrev pub IsBelow : ℕ → ℕ → Type 0
IsBelow high i = i ≤ high

index_step : (n high : ℕ) (text : List ℕ) (o : Option (List ℕ × List ℕ)) (x : ℕ × List ℕ) → high < 1000000 → cut 32 text ≡ o → index_from n high o ≡ Ok x → IsBelow high x.0 × (text ≡ first_word x.0 ++ x.1)
index_step n high text None x small c h = absurd cc
index_step n high text (Some w) x small c h =
    let (i, said, last) = bind_ok (on_line n (number_in 0 high w.0)) (λ i. Ok (i, w.1)) x h in
    let is : (i, w.1) ≡ x = cc (last) in
    let (spelled, low, below) = number_found 0 high w.0 i small (on_line_ok n (number_in 0 high w.0) i said) in
    rw (← is) (below, cut_found 32 text w c ∙ ap (λ l. l ++ 32 ∷ w.1) spelled ∙ sym (append_assoc (decimal i) (32 ∷ []) w.1))

index_found : (n high : ℕ) → high < 1000000 → (text : List ℕ) (x : ℕ × List ℕ) → index_in n high text ≡ Ok x → IsBelow high x.0 × (text ≡ first_word x.0 ++ x.1)
unfolding index_in
index_found n high small text x h = index_step n high text (cut 32 text) x small refl h

-- the words with the space before each
pub words_shift : (is : List ℕ) (last : ℕ) → 32 ∷ (flat_map first_word is ++ decimal last) ≡ flat_map index_word (is ++ last ∷ [])
words_shift [] last = sym (append-nil (32 ∷ decimal last))
words_shift (i ∷ is) last =
    ap (λ l. 32 ∷ l) (append_assoc (first_word i) (flat_map first_word is) (decimal last) ∙ append_assoc (decimal i) (32 ∷ []) (flat_map first_word is ++ decimal last))
    ∙ ap (λ l. (32 ∷ decimal i) ++ l) (words_shift is last)

Below-append : (high : ℕ) (is : List ℕ) (last : ℕ) → AllByRecursion (IsBelow high) is → last ≤ high → AllByRecursion (IsBelow high) (is ++ last ∷ [])
Below-append high [] last h l = (l, tt)
Below-append high (i ∷ is) last h l = (h.0, Below-append high is last h.1 l)

pub indexes_found : (n more high : ℕ) (text : List ℕ) (order : List ℕ) → high < 1000000 → indexes_in n more high text ≡ Ok order → AllByRecursion (IsBelow high) order × (length order ≡ more + 1) × (32 ∷ text ≡ flat_map index_word order)
unfolding indexes_in
indexes_found n more high text order small h =
    let (is, reads, then) = bind_ok (many_from (index_in n high) more text) _ order h in
    let (i, said, last) = bind_ok (on_line n (number_in 0 high is.1)) (λ i. Ok (is.0 ++ i ∷ [])) order then in
    let same : is.0 ++ i ∷ [] ≡ order = cc (last) in
    let (below, count, spelled) = many_found (λ (t : List ℕ). t) first_word (IsBelow high) (index_in n high) (index_found n high small) more text is reads in
    let (word, low, top) = number_found 0 high is.1 i small (on_line_ok n (number_in 0 high is.1) i said) in
    rw (← same) (Below-append high is.0 i below top, length_push is.0 i ∙ ap (λ k. k + 1) count, ap (λ l. 32 ∷ l) (spelled ∙ ap (λ l. flat_map first_word is.0 ++ l) word) ∙ words_shift is.0 i)

order_in_found : (n units : ℕ) (line order : List ℕ) → 1 ≤ units → units ≤ 48 → order_in n units line ≡ Ok order → AllByRecursion (IsBelow (units - 1)) order × (length order ≡ units) × (line ≡ codes "order" ++ flat_map index_word order)
unfolding order_in
order_in_found n units line order some few h =
    let (tests, read) = if_ok _ _ _ order h in
    let (starts, digits) = and_parts (starts_with nat_eq line (codes "order ")) (are_numbers (units - 1) (drop 6 line)) tests in
    let (below, count, text) = indexes_found n (units - 1) (units - 1) (drop 6 line) order (omega arith) read in
    (below, omega (arith, count), begins line (codes "order ") starts ∙ ap (λ l. codes "order" ++ l) text)

pub order_found : (units : ℕ) (p : At) (x : List ℕ × At) → 1 ≤ units → units ≤ 48 → order_at units p ≡ Ok x → AllByRecursion (IsBelow (units - 1)) x.0 × (length x.0 ≡ units) × (p.rest ≡ order_line x.0 ++ x.1.rest)
unfolding order_at
order_found units p x some few h =
    let (l, read, then) = bind_ok (line_at p) _ x h in
    let (order, said, last) = bind_ok (order_in p.line units l.0) (λ order. Ok (order, l.1)) x then in
    let is : (order, l.1) ≡ x = cc (last) in
    let (below, count, text) = order_in_found p.line units l.0 order some few said in
    rw (← is) (below, count, line_found p l read ∙ ap (λ t. t ++ 10 ∷ l.1.rest) text ∙ ap (λ t. codes "order" ++ t) (regroup_1 (flat_map index_word order) l.1.rest))

pub record HasLast (xs : List ℕ) : Type 0 where
  pub front : List ℕ
  pub last : ℕ
  pub is : xs ≡ front ++ last ∷ []

pub last_of : (x : ℕ) (xs : List ℕ) → HasLast (x ∷ xs)
last_of x [] = record { front = []; last = x; is = refl }
last_of x (y ∷ ys) = let h = last_of y ys in record { front = x ∷ h.front; last = h.last; is = ap (λ l. x ∷ l) h.is }

pub Below-parts : (high : ℕ) (is : List ℕ) (last : ℕ) → AllByRecursion (IsBelow high) (is ++ last ∷ []) → AllByRecursion (IsBelow high) is × (last ≤ high)
Below-parts high [] last h = (tt, h.0)
Below-parts high (i ∷ is) last h = let rest = Below-parts high is last h.1 in ((h.0, rest.0), rest.1)

pub word_text : (i : ℕ) (is : List ℕ) (rest : List ℕ) → (first_word i ++ flat_map first_word is) ++ rest ≡ decimal i ++ 32 ∷ (flat_map first_word is ++ rest)
word_text i is rest = append_assoc (first_word i) (flat_map first_word is) rest ∙ append_assoc (decimal i) (32 ∷ []) (flat_map first_word is ++ rest)

pub are_numbers_again : (high : ℕ) (is : List ℕ) (last : ℕ) → high < 1000000 → AllByRecursion (IsBelow high) is → last ≤ high → are_numbers (length is) (flat_map first_word is ++ decimal last) ≡ true
are_numbers_again high [] last small h l = is_number-decimal last (omega arith)
are_numbers_again high (i ∷ is) last small h l =
    let below : i ≤ high = h.0 in
    let fits : i < 2 ^ 64 = omega arith in
    rw (word_text i is (decimal last), cut_again 32 (decimal i) (flat_map first_word is ++ decimal last) (decimal_lacks 32 i (omega arith) fits), is_number-decimal i fits, are_numbers_again high is last small h.1 l) refl

indexes_from_again : (n high : ℕ) (is : List ℕ) (rest : List ℕ) → high < 1000000 → AllByRecursion (IsBelow high) is → many_from (index_in n high) (length is) (flat_map first_word is ++ rest) ≡ Ok (is, rest)
unfolding index_in
indexes_from_again n high [] rest small h = refl
indexes_from_again n high (i ∷ is) rest small h =
    let below : i ≤ high = h.0 in
    let fits : i < 2 ^ 64 = omega arith in
    rw (word_text i is rest, cut_again 32 (decimal i) (flat_map first_word is ++ rest) (decimal_lacks 32 i (omega arith) fits), number_again 0 high i small (omega arith) below, indexes_from_again n high is rest small h.1) refl

pub indexes_again : (n high : ℕ) (is : List ℕ) (last : ℕ) → high < 1000000 → AllByRecursion (IsBelow high) is → last ≤ high → indexes_in n (length is) high (flat_map first_word is ++ decimal last) ≡ Ok (is ++ last ∷ [])
unfolding indexes_in
indexes_again n high is last small h l = rw (indexes_from_again n high is (decimal last) small h, number_again 0 high last small (omega arith) l) refl

order_in_again : (n units : ℕ) (is : List ℕ) (last : ℕ) → units ≤ 48 → length is + 1 ≡ units → AllByRecursion (IsBelow (units - 1)) is → last ≤ units - 1
    → order_in n units (codes "order " ++ (flat_map first_word is ++ decimal last)) ≡ Ok (is ++ last ∷ [])
unfolding order_in
order_in_again n units is last few count h l =
    let high : units - 1 ≡ length is = omega arith in
    let small : length is < 1000000 = omega arith in
    let below : AllByRecursion (IsBelow (length is)) is = subst (λ k. AllByRecursion (IsBelow k) is) high h in
    let top : last ≤ length is = omega arith in
    rw (high, are_numbers_again (length is) is last small below top) (indexes_again n (length is) is last small below top)

pub words_lack : (high : ℕ) (is : List ℕ) → high < 1000000 → AllByRecursion (IsBelow high) is → lacks 10 (flat_map index_word is) ≡ true
words_lack high [] small h = refl
words_lack high (i ∷ is) small h =
    let below : i ≤ high = h.0 in
    lacks-append 10 (index_word i) (flat_map index_word is) (decimal_lacks 10 i (omega arith) (omega arith)) (words_lack high is small h.1)

order_last_again : (k units : ℕ) (is : List ℕ) (last : ℕ) (rest : List ℕ) → units ≤ 48 → length (is ++ last ∷ []) ≡ units → AllByRecursion (IsBelow (units - 1)) (is ++ last ∷ [])
    → order_at units (record { line = k; rest = order_line (is ++ last ∷ []) ++ rest }) ≡ Ok (is ++ last ∷ [], record { line = k + 1; rest = rest })
unfolding order_at
order_last_again k units is last rest few count h =
    let parts = Below-parts (units - 1) is last h in
    let len : length is + 1 ≡ units = sym (length_push is last) ∙ count in
    let all = is ++ last ∷ [] in
    let text : (codes "order" ++ flat_map index_word all) ++ 10 ∷ rest ≡ order_line all ++ rest = ap (λ l. codes "order" ++ l) (regroup_1 (flat_map index_word all) rest) in
    let said : order_in k units (codes "order" ++ flat_map index_word all) ≡ Ok all = ap (λ l. order_in k units (codes "order" ++ l)) (sym (words_shift is last)) ∙ order_in_again k units is last few len parts.0 parts.1 in
    rw (← text, line_again k (codes "order" ++ flat_map index_word all) rest (words_lack (units - 1) all (omega arith) h), said) refl

pub order_again : (k units : ℕ) (order rest : List ℕ) → 1 ≤ units → units ≤ 48 → length order ≡ units → AllByRecursion (IsBelow (units - 1)) order
    → order_at units (record { line = k; rest = order_line order ++ rest }) ≡ Ok (order, record { line = k + 1; rest = rest })
order_again k units [] rest some few count h = absurd (omega arith)
order_again k units (x ∷ xs) rest some few count h =
    let l = last_of x xs in
    let same : l.front ++ l.last ∷ [] ≡ x ∷ xs = sym l.is in
    let counted : length (l.front ++ l.last ∷ []) ≡ units = ap length same ∙ count in
    let below : AllByRecursion (IsBelow (units - 1)) (l.front ++ l.last ∷ []) = subst (λ o. AllByRecursion (IsBelow (units - 1)) o) l.is h in
    let law = order_last_again k units l.front l.last rest few counted below in
    subst (λ o. order_at units (record { line = k; rest = order_line o ++ rest }) ≡ Ok (o, record { line = k + 1; rest = rest })) same law

-- ---- the value and the places

place_in_found : (line : List ℕ) (x : Place) → place_in line ≡ Ok x → IsPlaceLine x × (line ≡ codes "place " ++ (decimal x.phase ++ 32 ∷ decimal x.slot))
unfolding place_in
place_in_found line x h =
    let (starts, read) = if_ok _ _ _ x h in
    let (n, pair, is) = ok_map_ok _ (pair_in 0 59 7 (drop 6 line)) x read in
    let (spelled, first, second) = pair_found 0 59 7 (drop 6 line) n (omega arith) (omega arith) pair in
    rw (← is) ((first.1, second.1), begins line (codes "place ") starts ∙ ap (λ l. codes "place " ++ l) spelled)

pub place_found : (p : At) (x : Place × At) → place_at p ≡ Ok x → IsPlaceLine x.0 × (p.rest ≡ place_line x.0 ++ x.1.rest)
unfolding place_at
place_found p x h =
    let (line, said, is) = one_line_found place_in p x h in
    let (fits, text) = place_in_found line x.0 said in
    (fits, is ∙ ap (λ l. l ++ 10 ∷ x.1.rest) text ∙ ap (λ l. codes "place " ++ l) (regroup_2 (decimal x.0.phase) (decimal x.0.slot) x.1.rest))

place_in_again : (x : Place) → IsPlaceLine x → place_in (codes "place " ++ (decimal x.phase ++ 32 ∷ decimal x.slot)) ≡ Ok x
unfolding place_in
place_in_again x f = rw (pair_again 0 59 7 x.phase x.slot (omega arith) (omega arith) (omega arith) f.0 (omega arith) f.1) refl

pub place_again : (k : ℕ) (x : Place) (rest : List ℕ) → IsPlaceLine x → place_at (record { line = k; rest = place_line x ++ rest }) ≡ Ok (x, record { line = k + 1; rest = rest })
unfolding place_at
place_again k x rest f =
    let words = decimal x.phase ++ 32 ∷ decimal x.slot in
    let text : codes "place " ++ (words ++ 10 ∷ rest) ≡ place_line x ++ rest = ap (λ l. codes "place " ++ l) (regroup_2 (decimal x.phase) (decimal x.slot) rest) in
    let no_lf : lacks 10 words ≡ true = lacks-append 10 (decimal x.phase) (32 ∷ decimal x.slot) (decimal_lacks 10 x.phase (omega arith) (omega (arith, f.0))) (decimal_lacks 10 x.slot (omega arith) (omega (arith, f.1))) in
    rw (← text) (one_line_again place_in k (codes "place " ++ words) x rest no_lf (place_in_again x f))

value_in_found : (line : List ℕ) (n : ℕ) → value_in line ≡ Ok n → (line ≡ codes "value " ++ decimal n) × (84 ≤ n) × (n ≤ 12304)
unfolding value_in
value_in_found line n h =
    let (starts, read) = if_ok _ _ _ n h in
    let (text, low, high) = number_found 84 12304 (drop 6 line) n (omega arith) read in
    (begins line (codes "value ") starts ∙ ap (λ l. codes "value " ++ l) text, low, high)

value_in_again : (n : ℕ) → 84 ≤ n → n ≤ 12304 → value_in (codes "value " ++ decimal n) ≡ Ok n
unfolding value_in
value_in_again n l h = number_again 84 12304 n (omega arith) l h

none_found : (units : ℕ) (p : At) (l : List ℕ × At) (x : Option Best × At) → line_at p ≡ Ok l → bytes_eq l.0 (codes "value none") ≡ true → (None, l.1) ≡ x → IsBestOrNone units x.0 × (p.rest ≡ best_lines x.0 ++ x.1.rest)
none_found units p l x read none is = rw (← is) (tt, line_found p l read ∙ ap (λ t. t ++ 10 ∷ l.1.rest) (same_bytes l.0 (codes "value none") none))

pub best_found : (units : ℕ) (p : At) (x : Option Best × At) → best_at units p ≡ Ok x → IsBestOrNone units x.0 × (p.rest ≡ best_lines x.0 ++ x.1.rest)
unfolding best_at
best_found units p x h =
    let (l, read, then) = bind_ok (line_at p) _ x h in
    elim (chosen (bytes_eq l.0 (codes "value none")) _ _ _ then) [
      | inl y ↦ none_found units p l x read y.0 (cc (y.1))
      | inr y ↦
          let (v, said, next) = bind_ok (on_line p.line (value_in l.0)) _ x y.1 in
          let (ps, reads, last) = bind_ok (many_from place_at units l.1) (λ ps. Ok (best_with v ps.0, ps.1)) x next in
          let is : (best_with v ps.0, ps.1) ≡ x = cc (last) in
          let (text, low, high) = value_in_found l.0 v (on_line_ok p.line (value_in l.0) v said) in
          let (fits, count, spelled) = many_found at_bytes place_line IsPlaceLine place_at place_found units l.1 ps reads in
          let whole : p.rest ≡ (value_line v ++ flat_map place_line ps.0) ++ ps.1.rest =
          line_found p l read ∙ ap (λ t. t ++ 10 ∷ l.1.rest) text ∙ ap (λ t. codes "value " ++ t) (regroup_1 (decimal v) l.1.rest) ∙ ap (λ t. value_line v ++ t) spelled ∙ sym (append_assoc (value_line v) (flat_map place_line ps.0) ps.1.rest) in
          rw (← is) (record { least = low; most = high; count = count; places = All-from_Rec IsPlaceLine ps.0 fits }, whole)
    ]

not_true : (b : Bool) → (b ≡ true → ⊥) → b ≡ false
not_true true h = absurd (h refl)
not_true false h = refl

no_none : (n : ℕ) → n < 2 ^ 64 → bytes_eq (codes "value " ++ decimal n) (codes "value none") ≡ false
no_none n fits =
    not_true (bytes_eq (codes "value " ++ decimal n) (codes "value none")) (λ h.
    let same : decimal n ≡ codes "none" = ap (drop 6) (same_bytes (codes "value " ++ decimal n) (codes "value none") h) in
    let digits : all_ascii_digits (decimal n) ≡ true = digits_decimal own n fits in
    false≢true (sym (ap all_ascii_digits same) ∙ digits))

pub best_again : (k units : ℕ) (b : Option Best) (rest : List ℕ) → IsBestOrNone units b → (m : ℕ) × (best_at units (record { line = k; rest = best_lines b ++ rest }) ≡ Ok (b, record { line = m; rest = rest }))
unfolding best_at
best_again k units None rest f = (k + 1, rw (line_again k (codes "value none") rest refl) refl)
best_again k units (Some b) rest f =
    let ps = b.plan.places in
    let fits : b.busiest < 2 ^ 64 = omega (arith, f.most) in
    let (m, es) = many_again place_line IsPlaceLine place_at place_again (k + 1) ps rest (Rec-from_All IsPlaceLine ps f.places) in
    let line = codes "value " ++ decimal b.busiest in
    let after = flat_map place_line ps ++ rest in
    let text : line ++ 10 ∷ after ≡ best_lines (Some b) ++ rest = ap (λ l. codes "value " ++ l) (regroup_1 (decimal b.busiest) after) ∙ sym (append_assoc (value_line b.busiest) (flat_map place_line ps) rest) in
    (m, rw (← text, line_again k line after (decimal_lacks 10 b.busiest (omega arith) fits), no_none b.busiest fits, value_in_again b.busiest f.least f.most, ← f.count, es) refl)

-- ---- the level

level_in_found : (line : List ℕ) (n : ℕ) → level_in line ≡ Ok n → (line ≡ codes "level " ++ decimal n) × (n ≤ 12304)
unfolding level_in
level_in_found line n h =
    let (starts, read) = if_ok _ _ _ n h in
    let (text, low, high) = number_found 0 12304 (drop 6 line) n (omega arith) read in
    (begins line (codes "level ") starts ∙ ap (λ l. codes "level " ++ l) text, high)

level_line_found : (p : At) (x : ℕ × At) → level_line_at p ≡ Ok x → (x.0 ≤ 12304) × (p.rest ≡ codes "level " ++ (decimal x.0 ++ 10 ∷ x.1.rest))
unfolding level_line_at
level_line_found p x h =
    let (line, said, is) = one_line_found level_in p x h in
    let (text, high) = level_in_found line x.0 said in
    (high, is ∙ ap (λ l. l ++ 10 ∷ x.1.rest) text)

level_text : (version n : ℕ) (rest : List ℕ) → codes "level " ++ (decimal n ++ 10 ∷ rest) ≡ level_line version (Some n) ++ rest
level_text version n rest = ap (λ l. codes "level " ++ l) (regroup_1 (decimal n) rest)

-- from version 4 on there is such a line without a level, too
pub none_line : (version : ℕ) → 4 ≤ version → level_line version None ≡ codes "level none\n"
none_line version late = let fourth : nat_le 4 version ≡ true = grind (arith, nat_tests, late) in rw fourth refl

no_line : (version : ℕ) → version ≤ 2 → level_line version None ≡ []
no_line version early = let third : nat_le 4 version ≡ false = grind (arith, nat_tests, early) in rw third refl

level_or_none_found : (version : ℕ) (p : At) (x : Option ℕ × At) → 4 ≤ version → level_or_none_at p ≡ Ok x → IsLevelLine version x.0 × (p.rest ≡ level_line version x.0 ++ x.1.rest)
unfolding level_or_none_at level_or_none_in
level_or_none_found version p x late h =
    let (l, read, then) = bind_ok (line_at p) _ x h in
    let (o, said, last) = bind_ok (on_line p.line (cond (bytes_eq l.0 (codes "level none")) (Ok None) (ok_map Some (level_in l.0)))) (λ n. Ok (n, l.1)) x then in
    let is : (o, l.1) ≡ x = cc (last) in
    let whole = line_found p l read in
    elim (chosen (bytes_eq l.0 (codes "level none")) _ _ _ (on_line_ok p.line _ o said)) [
      | inl y ↦
          let none : None ≡ o = cc (y.1) in
          let text : p.rest ≡ level_line version None ++ l.1.rest = whole ∙ ap (λ t. t ++ 10 ∷ l.1.rest) (same_bytes l.0 (codes "level none") y.0) ∙ ap (λ t. t ++ l.1.rest) (sym (none_line version late)) in
          rw (← is, ← none) (inr late, text)
      | inr y ↦
          let (n, some, one) = ok_map_ok Some (level_in l.0) o y.1 in
          let (text, high) = level_in_found l.0 n some in
          let third : 3 ≤ version = omega (arith, late) in
          rw (← is, ← one) ((third, high), whole ∙ ap (λ t. t ++ 10 ∷ l.1.rest) text ∙ level_text version n l.1.rest)
    ]

pub level_found : (version : ℕ) (p : At) (x : Option ℕ × At) → level_at version p ≡ Ok x → IsLevelLine version x.0 × (p.rest ≡ level_line version x.0 ++ x.1.rest)
unfolding level_at
level_found version p x h =
    elim (chosen (nat_le 4 version) _ _ _ h) [
      | inl z ↦ let late : 4 ≤ version = grind (arith, nat_tests, z.0) in level_or_none_found version p x late z.1
      | inr z ↦ elim (chosen (nat_le 3 version) _ _ _ z.1) [
        | inl y ↦
            let (n, read, last) = bind_ok (level_line_at p) (λ n. Ok (Some n.0, n.1)) x y.1 in
            let is : (Some n.0, n.1) ≡ x = cc (last) in
            let (high, text) = level_line_found p n read in
            let third : 3 ≤ version = grind (arith, nat_tests, y.0) in
            rw (← is) ((third, high), text ∙ level_text version n.0 n.1.rest)
        | inr y ↦
            let is : (None, p) ≡ x = cc (y.1) in
            let early : version ≤ 2 = grind (arith, nat_tests, y.0) in
            rw (← is) (inl early, ap (λ t. t ++ p.rest) (sym (no_line version early)))
      ]
    ]

cond_same : {A : Type 0} (b : Bool) (x : A) → cond b x x ≡ x
cond_same true x = refl
cond_same false x = refl

level_in_again : (n : ℕ) → n ≤ 12304 → level_in (codes "level " ++ decimal n) ≡ Ok n
unfolding level_in
level_in_again n h = number_again 0 12304 n (omega arith) (omega arith) h

level_line_again : (k n : ℕ) (rest : List ℕ) → n ≤ 12304 → level_line_at (record { line = k; rest = codes "level " ++ (decimal n ++ 10 ∷ rest) }) ≡ Ok (n, record { line = k + 1; rest = rest })
unfolding level_line_at
level_line_again k n rest h = one_line_again level_in k (codes "level " ++ decimal n) n rest (decimal_lacks 10 n (omega arith) (omega arith)) (level_in_again n h)

-- a number isn't the word for none
no_number : (n : ℕ) → n < 2 ^ 64 → bytes_eq (codes "level " ++ decimal n) (codes "level none") ≡ false
no_number n fits =
    not_true (bytes_eq (codes "level " ++ decimal n) (codes "level none")) (λ h.
    let same : decimal n ≡ codes "none" = ap (drop 6) (same_bytes (codes "level " ++ decimal n) (codes "level none") h) in
    let digits : all_ascii_digits (decimal n) ≡ true = digits_decimal own n fits in
    false≢true (sym (ap all_ascii_digits same) ∙ digits))

level_or_none_again : (k n : ℕ) (rest : List ℕ) → n ≤ 12304 → level_or_none_at (record { line = k; rest = codes "level " ++ (decimal n ++ 10 ∷ rest) }) ≡ Ok (Some n, record { line = k + 1; rest = rest })
unfolding level_or_none_at level_or_none_in
level_or_none_again k n rest h = rw (line_again k (codes "level " ++ decimal n) rest (decimal_lacks 10 n (omega arith) (omega arith)), no_number n (omega (arith, h)), level_in_again n h) refl

no_level_again : (k : ℕ) (rest : List ℕ) → level_or_none_at (record { line = k; rest = codes "level none\n" ++ rest }) ≡ Ok (None, record { line = k + 1; rest = rest })
unfolding level_or_none_at level_or_none_in
no_level_again k rest = rw (line_again k (codes "level none") rest refl) refl

none_again : (k version : ℕ) (rest : List ℕ) → (version ≤ 2) ⊎ (4 ≤ version) → (m : ℕ) × (level_at version (record { line = k; rest = level_line version None ++ rest }) ≡ Ok (None, record { line = m; rest = rest }))
unfolding level_at
none_again k version rest (inl early) =
    let fourth : nat_le 4 version ≡ false = grind (arith, nat_tests, early) in
    let third : nat_le 3 version ≡ false = grind (arith, nat_tests, early) in
    (k, rw (fourth, third) refl)
none_again k version rest (inr late) =
    let fourth : nat_le 4 version ≡ true = grind (arith, nat_tests, late) in
    (k + 1, rw (fourth, no_level_again k rest) refl)

some_again : (k version n : ℕ) (rest : List ℕ) → 3 ≤ version → n ≤ 12304 → level_at version (record { line = k; rest = codes "level " ++ (decimal n ++ 10 ∷ rest) }) ≡ Ok (Some n, record { line = k + 1; rest = rest })
unfolding level_at
some_again k version n rest third high =
    let later : nat_le 3 version ≡ true = grind (arith, nat_tests, third) in
    rw (level_or_none_again k n rest high, later, level_line_again k n rest high) (cond_same (nat_le 4 version) _)

pub level_again : (k version : ℕ) (o : Option ℕ) (rest : List ℕ) → IsLevelLine version o → (m : ℕ) × (level_at version (record { line = k; rest = level_line version o ++ rest }) ≡ Ok (o, record { line = m; rest = rest }))
level_again k version None rest f = none_again k version rest f
level_again k version (Some n) rest f = (k + 1, rw (← level_text version n rest) (some_again k version n rest f.0 f.1))

-- ---- the line before the tree

pub start_found : (p x : At) → start_at p ≡ Ok x → p.rest ≡ codes "tree\n" ++ x.rest
unfolding start_at
start_found p x h =
    let (l, read, then) = bind_ok (line_at p) _ x h in
    let (tests, last) = if_ok (bytes_eq l.0 (codes "tree")) _ _ x then in
    let is : l.1 ≡ x = cc (last) in
    rw (← is) (line_found p l read ∙ ap (λ t. t ++ 10 ∷ l.1.rest) (same_bytes l.0 (codes "tree") tests))

pub start_again : (k : ℕ) (rest : List ℕ) → start_at (record { line = k; rest = codes "tree\n" ++ rest }) ≡ Ok (record { line = k + 1; rest = rest })
unfolding start_at
start_again k rest = rw (line_again k (codes "tree") rest refl) refl
