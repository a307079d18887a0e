-- What a line says, by what it begins with.
use Rattle.std.proofs.Common.{◌≡◌, ℕ, ◌-◌, true, false, nat_eq, List, length, take, drop, codes, Some, Result, Ok, Err, refl, sym, ap, ◌∙◌}
use Rattle.std.proofs.lemmas.List.{take_rest}
use Rattle.std.specs.List.{starts_with}
use Rattle.std.specs.Str.{bytes_eq}
use Rattle.ec_units.specs.Names.{is_name}
use Rattle.ec_cert_text.specs.declared.words.Wrong.{Wrong}
use Rattle.ec_cert_text.specs.declared.words.Wrong.TheVariants as wrong
use Rattle.ec_cert_text.specs.declared.nodes.Node.TheVariants as node
use Rattle.ec_cert_text.specs.Reading.{number_in, pair_in, ok_map, cut, is_number, unit_in, place_in, node_in, room_in}
use Rattle.ec_cert_text.specs.Views.{unit_view}

pub says_split : (line : List ℕ) (r : Result ℕ Wrong) → starts_with nat_eq line (codes "S ") ≡ true → r ≡ number_in 1 480 (take (length line - 2) (drop 2 line)) → ok_map node.Split r ≡ node_in line
unfolding node_in
says_split line r begins is = rw begins (ap (ok_map node.Split) (is ∙ ap (number_in 1 480) (take_rest line 2)))

pub says_tick : (line : List ℕ) (r : Result ℕ Wrong) → starts_with nat_eq line (codes "S ") ≡ false → starts_with nat_eq line (codes "T ") ≡ true → r ≡ number_in 0 1023 (take (length line - 2) (drop 2 line)) → ok_map node.TickLeaf r ≡ node_in line
unfolding node_in
says_tick line r no_split begins is = rw (no_split, begins) (ap (ok_map node.TickLeaf) (is ∙ ap (number_in 0 1023) (take_rest line 2)))

pub says_full : (line : List ℕ) (r : Result (ℕ × ℕ) Wrong) → starts_with nat_eq line (codes "S ") ≡ false → starts_with nat_eq line (codes "T ") ≡ false → starts_with nat_eq line (codes "F ") ≡ true → r ≡ pair_in 0 1023 7 (take (length line - 2) (drop 2 line))
    → ok_map (λ n. node.FullLeaf n.0 n.1) r ≡ node_in line
unfolding node_in
says_full line r no_split no_tick begins is = rw (no_split, no_tick, begins) (ap (ok_map (λ n. node.FullLeaf n.0 n.1)) (is ∙ ap (pair_in 0 1023 7) (take_rest line 2)))

pub says_none : (line : List ℕ) → starts_with nat_eq line (codes "S ") ≡ false → starts_with nat_eq line (codes "T ") ≡ false → starts_with nat_eq line (codes "F ") ≡ false → bytes_eq line (codes "A") ≡ false → Err wrong.Words ≡ node_in line
unfolding node_in
says_none line no_split no_tick no_full no_average = rw (no_split, no_tick, no_full, no_average) refl

pub says_count : (line : List ℕ) (r : Result (ℕ × ℕ) Wrong) → starts_with nat_eq line (codes "N ") ≡ true → r ≡ pair_in 1 60 1486 (take (length line - 2) (drop 2 line)) → ok_map (λ n. node.Count n.0 n.1) r ≡ room_in line
unfolding room_in
says_count line r begins is = rw begins (ap (ok_map (λ n. node.Count n.0 n.1)) (is ∙ ap (pair_in 1 60 1486) (take_rest line 2)))

pub says_merge : (line : List ℕ) → starts_with nat_eq line (codes "N ") ≡ false → bytes_eq line (codes "M") ≡ true → Ok node.Merge ≡ room_in line
unfolding room_in
says_merge line no_count merge = rw (no_count, merge) refl

pub says_other : (line : List ℕ) → starts_with nat_eq line (codes "N ") ≡ false → bytes_eq line (codes "M") ≡ false → node_in line ≡ room_in line
unfolding room_in
says_other line no_count no_merge = rw (no_count, no_merge) refl

pub says_place : (line : List ℕ) (r : Result (ℕ × ℕ) Wrong) → starts_with nat_eq line (codes "place ") ≡ true → r ≡ pair_in 0 59 7 (take (length line - 6) (drop 6 line)) → ok_map (λ n. record { phase = n.0; slot = n.1 }) r ≡ place_in line
unfolding place_in
says_place line r begins is = rw begins (ap (ok_map (λ n. record { phase = n.0; slot = n.1 })) (is ∙ ap (pair_in 0 59 7) (take_rest line 6)))

pub says_unit : (line name numbers : List ℕ) (r : Result (ℕ × ℕ) Wrong) → starts_with nat_eq line (codes "unit ") ≡ true → Some (name, numbers) ≡ cut 32 (take (length line - 5) (drop 5 line)) → is_name name ≡ true → r ≡ pair_in 1 1486 60 numbers
    → unit_in line ≡ ok_map (λ n. unit_view name n.0 n.1) r
unfolding unit_in
says_unit line name numbers r begins parts named is =
    let split : cut 32 (drop 5 line) ≡ Some (name, numbers) = sym (parts ∙ ap (cut 32) (take_rest line 5)) in
    rw (begins, split, named) (ap (ok_map (λ n. unit_view name n.0 n.1)) (sym is))

-- ---- two numbers, by what each of their words says

pub first_wrong : (low high0 high1 : ℕ) (text a b : List ℕ) (w : Wrong) → Some (a, b) ≡ cut 32 text → is_number b ≡ true → Err w ≡ number_in low high0 a → Err w ≡ pair_in low high0 high1 text
unfolding pair_in
first_wrong low high0 high1 text a b w parts digits is = rw (sym parts, digits, sym is) refl

pub second_wrong : (low high0 high1 n : ℕ) (text a b : List ℕ) (w : Wrong) → Some (a, b) ≡ cut 32 text → is_number b ≡ true → Ok n ≡ number_in low high0 a → Err w ≡ number_in low high1 b → Err w ≡ pair_in low high0 high1 text
unfolding pair_in
second_wrong low high0 high1 n text a b w parts digits first is = rw (sym parts, digits, sym first, sym is) refl

pub says_pair : (low high0 high1 n m : ℕ) (text a b : List ℕ) → Some (a, b) ≡ cut 32 text → is_number b ≡ true → Ok n ≡ number_in low high0 a → Ok m ≡ number_in low high1 b → Ok (n, m) ≡ pair_in low high0 high1 text
unfolding pair_in
says_pair low high0 high1 n m text a b parts digits first second = rw (sym parts, digits, sym first, sym second) refl
