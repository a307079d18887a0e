-- The texts of certificates have no byte but line feeds and those from the space to `~`.
use Rattle.std.proofs.Common.{◌≡◌, ℕ, zero, suc, ◌^◌, ◌<◌, ◌≤◌, Bool, true, false, cond, nat_le, nat_lt, List, [], ◌∷◌, ◌++◌, length, codes, Option, Some, None, Result, Ok, Err, IfOk, refl, arith}
use Rattle.std.specs.List.{flat_map, AllByRecursion, list_all}
use Rattle.std.specs.Str.{all_ascii_digits}
use Rattle.std.specs.Fmt.{decimal}
use Rattle.std.proofs.lemmas.Fmt.{digits_decimal}
use Rattle.std.proofs.lemmas.Bool.{and_parts}
use Rattle.std.proofs.lemmas.Bool.Decides.{nat_tests}
use Rattle.ec_units.specs.Names.{is_name_byte}
use Rattle.ec_units.specs.declared.slave.Place.{Place}
use Rattle.ec_loads.specs.declared.pair.Pair.{Pair}
use Rattle.ec_loads.specs.Search.{IsShortPair}
use Rattle.ec_loads.specs.Shape.{Leaf, tick, full, average, weighted, merging, counted, grouped, Shape, split, leaf, open_leaf, Shapes, no_shapes, more, shape_count}
use Rattle.ec_cert_text.specs.declared.fault.CertFault.{CertFault}
use Rattle.ec_cert.specs.declared.lists.UnitLine.{UnitLine}
use Rattle.ec_cert.specs.declared.cert.Best.{Best}
use Rattle.ec_cert.specs.declared.cert.Cert.{Cert}
use Rattle.ec_cert.specs.declared.kinds.Kinds.{Kinds}
use Rattle.ec_cert.specs.LeafKinds.{kinds_in}
use Rattle.ec_cert.specs.Shapes.{CertView, cert_view}
use Rattle.ec_cert_text.specs.Reading.{Gives, is_text_byte, reading}
use Rattle.ec_cert.specs.WellFormed.{IsLeafLine, HasLevels, HaveLevels, IsUnitLine, IsPlaceLine, IsBestOrNone, IsLevelLine, IsWellFormed}
use Rattle.ec_cert_text.specs.Text.{version_line, slots_line, unit_line, index_word, order_line, value_line, place_line, best_lines, level_line, pair_words, split_line, leaf_line, node_lines, row_lines, tree_lines, certificate_text}
use Rattle.ec_cert_text.proofs.WordLaws.{own, if_err, if_ok}
use Rattle.ec_cert_text.proofs.ManyLaws.{Rec-from_All}
use Rattle.ec_cert_text.proofs.TextLaws.{body_found, body_again}

abbrev are_text : List ℕ → Bool
are_text bs = list_all is_text_byte bs

text-append : (xs ys : List ℕ) → are_text xs ≡ true → are_text ys ≡ true → are_text (xs ++ ys) ≡ true
text-append [] ys h k = k
text-append (x ∷ xs) ys h k =
    let parts = and_parts (is_text_byte x) (are_text xs) h in
    rw (parts.0, text-append xs ys parts.1 k) refl

text-digits : (ds : List ℕ) → all_ascii_digits ds ≡ true → are_text ds ≡ true
text-digits [] h = refl
text-digits (c ∷ cs) h = grind (arith, nat_tests, text-digits cs)

text-decimal : (n : ℕ) → n < 2 ^ 64 → are_text (decimal n) ≡ true
text-decimal n h = text-digits (decimal n) (digits_decimal own n h)

text-name_byte : (b : ℕ) → is_name_byte b ≡ true → is_text_byte b ≡ true
text-name_byte b h = grind (arith, nat_tests)

text-name : (bs : List ℕ) → list_all is_name_byte bs ≡ true → are_text bs ≡ true
text-name [] h = refl
text-name (b ∷ bs) h =
    let parts = and_parts (is_name_byte b) (list_all is_name_byte bs) h in
    rw (text-name_byte b parts.0, text-name bs parts.1) refl

text-flat_map : {X : Type 0} (line : X → List ℕ) (P : X → Type 0) → ((x : X) → P x → are_text (line x) ≡ true) → (xs : List X) → AllByRecursion P xs → are_text (flat_map line xs) ≡ true
text-flat_map line P law [] h = refl
text-flat_map line P law (x ∷ xs) h = text-append (line x) (flat_map line xs) (law x h.0) (text-flat_map line P law xs h.1)

-- a number, and then some text
text-number : (n : ℕ) (rest : List ℕ) → n < 2 ^ 64 → are_text rest ≡ true → are_text (decimal n ++ rest) ≡ true
text-number n rest h k = text-append (decimal n) rest (text-decimal n h) k

text-unit : (u : UnitLine) → IsUnitLine u → are_text (unit_line u) ≡ true
text-unit u f =
    text-append u.name _ (text-name u.name (and_parts _ _ f.name).1) (text-number u.bytes _ (omega (arith, f.most_bytes)) (text-number u.period _ (omega (arith, f.most_period)) refl))

text-place : (p : Place) → IsPlaceLine p → are_text (place_line p) ≡ true
text-place p f = text-number p.phase _ (omega (arith, f.0)) (text-number p.slot _ (omega (arith, f.1)) refl)

text-index : (most : ℕ) → most ≤ 65536 → (i : ℕ) → i < most → are_text (index_word i) ≡ true
text-index most few i h = text-decimal i (omega arith)

text-weight : (i : ℕ) → i ≤ 65535 → are_text (index_word i) ≡ true
text-weight i h = text-index 65536 (omega arith) i (omega arith)

text-best : (units : ℕ) (b : Option Best) → IsBestOrNone units b → are_text (best_lines b) ≡ true
text-best units None f = refl
text-best units (Some b) f =
    text-append (value_line b.busiest) _ (text-number b.busiest _ (omega (arith, f.most)) refl) (text-flat_map place_line IsPlaceLine text-place b.plan.places (Rec-from_All IsPlaceLine b.plan.places f.places))

text-no_level : (b : Bool) → are_text (cond b (codes "level none\n") []) ≡ true
text-no_level true = refl
text-no_level false = refl

text-level : (version : ℕ) (o : Option ℕ) → IsLevelLine version o → are_text (level_line version o) ≡ true
text-level version None f = text-no_level (nat_le 4 version)
text-level version (Some n) f = text-number n _ (omega (arith, f.1)) refl

text-pair : (pair : Pair) → IsShortPair pair → are_text (pair_words pair) ≡ true
text-pair pair f = text-append (index_word pair.count) (index_word pair.room) (text-weight pair.count f.0) (text-weight pair.room (omega (arith, f.1)))

text-leaf : (kinds : Kinds) (l : Leaf) → IsLeafLine kinds l → are_text (leaf_line l) ≡ true
text-leaf kinds (tick t) f = text-number t _ (omega arith) refl
text-leaf kinds (full t s) f = text-number t _ (omega (arith, f.0)) (text-number s _ (omega (arith, f.1)) refl)
text-leaf kinds average f = refl
text-leaf kinds (weighted w) f = text-append (flat_map index_word w) _ (text-flat_map index_word (λ i. i ≤ 65535) text-weight w (Rec-from_All (λ i. i ≤ 65535) w f.1.each)) refl
text-leaf kinds merging f = refl
text-leaf kinds (counted p c) f = text-number p _ (omega (arith, f.1.0.1)) (text-number c _ (omega (arith, f.1.1.1)) refl)
text-leaf kinds (grouped pairs) f = text-append (flat_map pair_words pairs) _ (text-flat_map pair_words IsShortPair text-pair pairs (Rec-from_All IsShortPair pairs f.1.each)) refl

mutual
  text-nodes : (kinds : Kinds) (d : ℕ) (s : Shape) → HasLevels kinds d s → are_text (node_lines s) ≡ true
  text-nodes kinds zero s f = absurd f
  text-nodes kinds (suc d) (split ss) f = text-append (split_line (shape_count ss)) (row_lines ss) (text-number (shape_count ss) _ (omega (arith, f.1)) refl) (text-row kinds d ss f.2)
  text-nodes kinds (suc d) (leaf l) f = text-leaf kinds l f
  text-nodes kinds (suc d) open_leaf f = refl

  text-row : (kinds : Kinds) (d : ℕ) (ss : Shapes) → HaveLevels kinds d ss → are_text (row_lines ss) ≡ true
  text-row kinds d no_shapes f = refl
  text-row kinds d (more s ss) f = text-append (node_lines s) (row_lines ss) (text-nodes kinds d s f.0) (text-row kinds d ss f.1)

text-order : (units : ℕ) (order : List ℕ) → units ≤ 48 → AllByRecursion (λ i. i < units) order → are_text (order_line order) ≡ true
text-order units order few h = text-append (flat_map index_word order) _ (text-flat_map index_word (λ i. i < units) (text-index units (omega arith)) order h) refl

pub text-certificate : (c : CertView) → IsWellFormed c → are_text (certificate_text c) ≡ true
text-certificate c f =
    let tree = text-append (node_lines c.tree) (codes "end\n") (text-nodes (kinds_in c.version c.level) 49 c.tree f.tree) refl in
    let level = text-append (level_line c.version c.level) (tree_lines c.tree) (text-level c.version c.level f.level) tree in
    let best = text-append (best_lines c.best) _ (text-best (length c.units) c.best f.best) level in
    let order = text-append (order_line c.order) _ (text-order (length c.units) c.order f.most_units (Rec-from_All (λ i. i < length c.units) c.order f.order)) best in
    let units = text-append (flat_map unit_line c.units) _ (text-flat_map unit_line IsUnitLine text-unit c.units (Rec-from_All IsUnitLine c.units f.units)) order in
    let slots = text-append (slots_line c.slots) _ (text-number c.slots _ (omega (arith, f.most_slots)) refl) units in
    text-append (version_line c.version) _ (text-number c.version _ (omega (arith, f.most_version)) refl) slots

-- ---- the whole

pub reading_found : (text : List ℕ) (c : CertView) → reading text ≡ Ok c → IsWellFormed c × (length text ≤ 67108864) × (text ≡ certificate_text c)
unfolding reading
reading_found text c e =
    let (long, next) = if_err _ _ _ c e in
    let (bytes, then) = if_ok (list_all is_text_byte text) _ _ c next in
    let (formed, spelled) = body_found text c then in
    (formed, grind (arith, nat_tests), spelled)

pub reading_again : (c : CertView) → IsWellFormed c → length (certificate_text c) ≤ 67108864 → reading (certificate_text c) ≡ Ok c
unfolding reading
reading_again c f short =
    let long : nat_lt 67108864 (length (certificate_text c)) ≡ false = grind (arith, nat_tests) in
    rw (long, text-certificate c f) (body_again c f)

pub is_found : (text : List ℕ) (r : Result Cert CertFault) → Gives cert_view r (reading text) → IfOk r (λ c. IsWellFormed (cert_view c) × (length text ≤ 67108864) × (text ≡ certificate_text (cert_view c)))
is_found text (Ok c) g = reading_found text (cert_view c) g
is_found text (Err e) g = tt
