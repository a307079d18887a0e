-- Whole texts: what is read is the text of it, and a text is read again.
-- The law on equal texts goes by `body`, the reading without the test of length and bytes, so that it holds for texts
-- of any length.
use Rattle.std.proofs.Common.{◌≡◌, ◌⊎◌, ℕ, ◌+◌, ◌-◌, ◌<◌, ◌≤◌, ◌==◌, nat_eq, List, [], ◌∷◌, ◌++◌, length, drop, codes, Result, Ok, Err, refl, ap, sym, subst, ◌∙◌, arith, inl, inr}
use Rattle.std.specs.List.{starts_with, flat_map, AllByRecursion}
use Rattle.std.specs.Str.{bytes_eq}
use Rattle.std.specs.Fmt.{decimal}
use Rattle.std.proofs.lemmas.Fmt.{decimal_digit}
use Rattle.std.proofs.lemmas.Bool.{cases_lt}
use Rattle.std.proofs.lemmas.Bool.Decides.{nat_tests}
use Rattle.std.proofs.lemmas.List.{nil_from_length}
use Rattle.ec_cert_text.specs.declared.fault.CertFault.{CertFault}
use Rattle.ec_cert_text.specs.declared.fault.CertFault.TheVariants as fault
use Rattle.ec_cert.specs.LeafKinds.{kinds_in}
use Rattle.ec_cert.specs.Shapes.{CertView}
use Rattle.ec_cert_text.specs.Reading.{◌>>=◌, At, line_at, version_at, slots_at, units_at, order_at, best_at, level_at, start_at, tree_at, nothing_at, end_at, parts_at}
use Rattle.ec_cert.specs.WellFormed.{IsUnitLine, IsWellFormed}
use Rattle.ec_cert_text.specs.Text.{version_line, slots_line, unit_line, order_line, best_lines, level_line, node_lines, tree_lines, certificate_text}
use Rattle.ec_cert_text.proofs.WordLaws.{if_ok, bind_ok, chosen, begins, same_bytes, line_found, line_again}
use Rattle.ec_cert_text.proofs.ManyLaws.{Rec-from_All, All-from_Rec}
use Rattle.ec_cert_text.proofs.HeadLaws.{slots_found, slots_again, units_found, units_again, order_found, order_again, best_found, best_again, level_found, level_again, start_found, start_again}
use Rattle.ec_cert_text.proofs.NodeLaws.{tree_found, tree_again}

-- ---- the end

nothing_found : (p : At) (x : Unit {0}) → nothing_at p ≡ Ok x → p.rest ≡ []
nothing_found p x e =
    elim (chosen (length p.rest == 0) _ _ _ e) [
      | inl y ↦ nil_from_length p.rest (grind (arith, nat_tests))
      | inr y ↦ let (l, read, then) = bind_ok (line_at p) (λ l. Err (fault.Late p.line)) x y.1 in absurd cc
    ]

pub end_found : (p : At) (x : Unit {0}) → end_at p ≡ Ok x → p.rest ≡ codes "end\n"
unfolding end_at
end_found p x e =
    let (l, read, then) = bind_ok (line_at p) _ x e in
    let (tests, last) = if_ok (bytes_eq l.0 (codes "end")) _ _ x then in
    let over : l.1.rest ≡ [] = nothing_found l.1 x last in
    line_found p l read ∙ ap (λ t. t ++ 10 ∷ l.1.rest) (same_bytes l.0 (codes "end") tests) ∙ ap (λ r. codes "end\n" ++ r) over

end_again : (n : ℕ) → end_at (record { line = n; rest = codes "end\n" }) ≡ Ok tt
unfolding end_at
end_again n = rw (line_again n (codes "end") [] refl) refl

-- ---- the first line

abbrev IsKnown : ℕ → Type 0
IsKnown version = (1 ≤ version) × (version ≤ 4)

version_found : (text : List ℕ) (x : ℕ × At) → version_at text ≡ Ok x → IsKnown x.0 × (text ≡ version_line x.0 ++ x.1.rest)
unfolding version_at
version_found text x e =
    elim (chosen (starts_with nat_eq text (codes "ecplan 1\n")) _ _ _ e) [
      | inl y ↦
          let is : (1, record { line = 2; rest = drop 9 text }) ≡ x = cc (y.1) in
          let one : decimal 1 ≡ 49 ∷ [] = decimal_digit 1 (omega arith) in
          rw (← is, one) ((omega arith, omega arith), begins text (codes "ecplan 1\n") y.0)
      | inr y ↦
          elim (chosen (starts_with nat_eq text (codes "ecplan 2\n")) _ _ _ y.1) [
            | inl z ↦
                let is : (2, record { line = 2; rest = drop 9 text }) ≡ x = cc (z.1) in
                let two : decimal 2 ≡ 50 ∷ [] = decimal_digit 2 (omega arith) in
                rw (← is, two) ((omega arith, omega arith), begins text (codes "ecplan 2\n") z.0)
            | inr z ↦
                elim (chosen (starts_with nat_eq text (codes "ecplan 3\n")) _ _ _ z.1) [
                  | inl w ↦
                      let is : (3, record { line = 2; rest = drop 9 text }) ≡ x = cc (w.1) in
                      let three : decimal 3 ≡ 51 ∷ [] = decimal_digit 3 (omega arith) in
                      rw (← is, three) ((omega arith, omega arith), begins text (codes "ecplan 3\n") w.0)
                  | inr w ↦
                      let (tests, last) = if_ok (starts_with nat_eq text (codes "ecplan 4\n")) _ _ x w.1 in
                      let is : (4, record { line = 2; rest = drop 9 text }) ≡ x = cc (last) in
                      let four : decimal 4 ≡ 52 ∷ [] = decimal_digit 4 (omega arith) in
                      rw (← is, four) ((omega arith, omega arith), begins text (codes "ecplan 4\n") tests)
                ]
          ]
    ]

abbrev IsOneOf : ℕ → Type 0
IsOneOf version = (version ≡ 1) ⊎ ((version ≡ 2) ⊎ ((version ≡ 3) ⊎ (version ≡ 4)))

version_again_by : (version : ℕ) (rest : List ℕ) → IsOneOf version → version_at (version_line version ++ rest) ≡ Ok (version, record { line = 2; rest = rest })
unfolding version_at
version_again_by version rest (inl is) =
    let one : decimal 1 ≡ 49 ∷ [] = decimal_digit 1 (omega arith) in
    rw (is, one) refl
version_again_by version rest (inr (inl is)) =
    let two : decimal 2 ≡ 50 ∷ [] = decimal_digit 2 (omega arith) in
    rw (is, two) refl
version_again_by version rest (inr (inr (inl is))) =
    let three : decimal 3 ≡ 51 ∷ [] = decimal_digit 3 (omega arith) in
    rw (is, three) refl
version_again_by version rest (inr (inr (inr is))) =
    let four : decimal 4 ≡ 52 ∷ [] = decimal_digit 4 (omega arith) in
    rw (is, four) refl

which_version : (version : ℕ) → IsKnown version → IsOneOf version
which_version version known =
    elim (cases_lt version 2) [
      | inl one ↦ inl (omega (arith, known.0))
      | inr more ↦ elim (cases_lt version 3) [
        | inl two ↦ inr (inl (omega arith))
        | inr later ↦ elim (cases_lt version 4) [ inl three ↦ inr (inr (inl (omega arith))) | inr four ↦ inr (inr (inr (omega (arith, known.1)))) ]
      ]
    ]

version_again : (version : ℕ) (rest : List ℕ) → IsKnown version → version_at (version_line version ++ rest) ≡ Ok (version, record { line = 2; rest = rest })
version_again version rest known = version_again_by version rest (which_version version known)

-- ---- the lines after it

abbrev parts_text : CertView → List ℕ
parts_text c = slots_line c.slots ++ (flat_map unit_line c.units ++ (order_line c.order ++ (best_lines c.best ++ (level_line c.version c.level ++ tree_lines c.tree))))

Below-strict : (units : ℕ) (order : List ℕ) → 1 ≤ units → AllByRecursion (λ i. i ≤ units - 1) order → AllByRecursion (λ i. i < units) order
Below-strict units [] some h = tt
Below-strict units (i ∷ is) some h = (let here : i ≤ units - 1 = h.0 in omega arith, Below-strict units is some h.1)

Below-loose : (units : ℕ) (order : List ℕ) → AllByRecursion (λ i. i < units) order → AllByRecursion (λ i. i ≤ units - 1) order
Below-loose units [] h = tt
Below-loose units (i ∷ is) h = (let here : i < units = h.0 in omega arith, Below-loose units is h.1)

abbrev read_as : CertView → Result CertView CertFault
read_as c = Ok c

read_same : (a b : CertView) → read_as a ≡ read_as b → a ≡ b
read_same a b e = cc

parts_found : (version : ℕ) (p : At) (c : CertView) → IsKnown version → parts_at version p ≡ Ok c → IsWellFormed c × (c.version ≡ version) × (p.rest ≡ parts_text c)
unfolding parts_at
parts_found version p c known e =
    let (slots, read_1, then_1) = bind_ok (slots_at p) _ c e in
    let (units, read_2, then_2) = bind_ok (units_at slots.1) _ c then_1 in
    let (order, read_3, then_3) = bind_ok (order_at (length units.0) units.1) _ c then_2 in
    let (best, read_4, then_4) = bind_ok (best_at (length units.0) order.1) _ c then_3 in
    let (level, read_5, then_5) = bind_ok (level_at version best.1) _ c then_4 in
    let (start, read_6, then_6) = bind_ok (start_at level.1) _ c then_5 in
    let (tree, read_7, then_7) = bind_ok (tree_at (kinds_in version level.0) 49 start) _ c then_6 in
    let (last, read_8, then_8) = bind_ok (end_at tree.1) _ c then_7 in
    let view : CertView = record { version = version; slots = slots.0; units = units.0; order = order.0; best = best.0; level = level.0; tree = tree.0 } in
    let is : view ≡ c = read_same view c then_8 in
    let (range, text_1) = slots_found p slots read_1 in
    let (all_units, count, text_2) = units_found slots.1 units read_2 in
    let (all_order, each, text_3) = order_found (length units.0) units.1 order count.0 count.1 read_3 in
    let (right, text_4) = best_found (length units.0) order.1 best read_4 in
    let (leveled, text_5) = level_found version best.1 level read_5 in
    let text_6 = start_found level.1 start read_6 in
    let (levels, text_7) = tree_found (kinds_in version level.0) 49 start tree read_7 in
    let text_8 = end_found tree.1 last read_8 in
    let formed : IsWellFormed view = record {
      least_version = known.0;
      most_version = known.1;
      least_slots = range.0;
      most_slots = range.1;
      least_units = count.0;
      most_units = count.1;
      units = All-from_Rec IsUnitLine units.0 all_units;
      order_count = each;
      order = All-from_Rec (λ i. i < length units.0) order.0 (Below-strict (length units.0) order.0 count.0 all_order);
      best = right;
      level = leveled;
      tree = levels;
    } in
    let whole : p.rest ≡ parts_text view =
    text_1 ∙ ap (λ r. slots_line slots.0 ++ r) (text_2 ∙ ap (λ r. flat_map unit_line units.0 ++ r) (text_3 ∙ ap (λ r. order_line order.0 ++ r) (text_4 ∙ ap (λ r. best_lines best.0 ++ r) (text_5 ∙ ap (λ r. level_line version level.0 ++ r) (text_6 ∙ ap (λ r. codes "tree\n" ++ r) (text_7 ∙ ap (λ r. node_lines tree.0 ++ r) text_8)))))) in
    subst (λ v. IsWellFormed v × (v.version ≡ version) × (p.rest ≡ parts_text v)) is (formed, refl, whole)

parts_again : (n : ℕ) (c : CertView) → IsWellFormed c → parts_at c.version (record { line = n; rest = parts_text c }) ≡ Ok c
unfolding parts_at
parts_again n c f =
    let rest_6 = tree_lines c.tree in
    let rest_5 = level_line c.version c.level ++ rest_6 in
    let rest_4 = best_lines c.best ++ rest_5 in
    let rest_3 = order_line c.order ++ rest_4 in
    let rest_2 = flat_map unit_line c.units ++ rest_3 in
    let (m, units) = units_again (n + 1) c.units rest_3 (Rec-from_All IsUnitLine c.units f.units) f.least_units f.most_units refl in
    let order = order_again m (length c.units) c.order rest_4 f.least_units f.most_units f.order_count (Below-loose (length c.units) c.order (Rec-from_All (λ i. i < length c.units) c.order f.order)) in
    let (k, best) = best_again (m + 1) (length c.units) c.best rest_5 f.best in
    let (j, level) = level_again k c.version c.level rest_6 f.level in
    let start = start_again j (node_lines c.tree ++ codes "end\n") in
    let (l, tree) = tree_again (kinds_in c.version c.level) 49 (j + 1) c.tree (codes "end\n") f.tree in
    rw (slots_again n c.slots rest_2 f.least_slots f.most_slots, units, order, best, level, start, tree, end_again l) refl

-- ---- the whole

abbrev pub body : List ℕ → Result CertView CertFault
body text = version_at text >>= (λ v. parts_at v.0 v.1)

pub body_found : (text : List ℕ) (c : CertView) → body text ≡ Ok c → IsWellFormed c × (text ≡ certificate_text c)
body_found text c e =
    let (v, first, then) = bind_ok (version_at text) (λ v. parts_at v.0 v.1) c e in
    let (known, line) = version_found text v first in
    let (formed, same, rest) = parts_found v.0 v.1 c known then in
    (formed, line ∙ ap (λ k. version_line k ++ v.1.rest) (sym same) ∙ ap (λ r. version_line c.version ++ r) rest)

pub body_again : (c : CertView) → IsWellFormed c → body (certificate_text c) ≡ Ok c
body_again c f =
    let first = version_again c.version (parts_text c) (f.least_version, f.most_version) in
    rw first (parts_again 2 c f)

-- certificates with one text are one certificate
pub law_one_text_each : (a b : CertView) → IsWellFormed a → IsWellFormed b → certificate_text a ≡ certificate_text b → a ≡ b
law_one_text_each a b f g e =
    let read : body (certificate_text a) ≡ Ok b = ap body e ∙ body_again b g in
    cc (body_again a f, read)
