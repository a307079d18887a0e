-- Reading line by line: what is due after the lines before it, and the first line at fault.
use Rattle.std.specs.Prelude.{◌≡◌, ℕ, zero, suc, ◌+◌, ◌*◌, ◌-◌, ◌%◌, Bool, false, not, ◌&&◌, ◌||◌, ◌==◌, nat_eq, nat_lt, nat_le, drop, if◌then◌else◌, List, [], ◌∷◌, ◌++◌, length, codes, slice_index, Option, Some, None, option_map, Result, Ok, Err}
use Rattle.std.specs.List.{starts_with, list_all}
use Rattle.std.specs.Str.{all_ascii_digits, bytes_eq}
use Rattle.ec_units.specs.Names.{is_name}
use Rattle.ec_units.specs.declared.slave.Place.{Place}
use Rattle.ec_loads.specs.declared.pair.Pair.{Pair}
use Rattle.ec_loads.specs.Shape.{tick, full, average, weighted, merging, counted, grouped, Shape, split, leaf, open_leaf}
use Rattle.ec_cert_text.specs.declared.fault.CertFault.{CertFault}
use Rattle.ec_cert_text.specs.declared.fault.CertFault.TheVariants as fault
use Rattle.ec_cert_text.specs.declared.words.Wrong.{Wrong}
use Rattle.ec_cert_text.specs.declared.words.Wrong.TheVariants as wrong
use Rattle.ec_cert_text.specs.declared.nodes.Node.{Node}
use Rattle.ec_cert_text.specs.declared.nodes.Node.TheVariants as node
use Rattle.ec_cert.specs.declared.lists.UnitLine.{UnitLine}
use Rattle.ec_cert.specs.declared.cert.Best.{Best}
use Rattle.ec_cert.specs.declared.kinds.Kinds.{Kinds}
use Rattle.ec_cert.specs.LeafKinds.{kinds_in}
use Rattle.ec_cert.specs.Shapes.{CertView, shapes}

-- the number of the next line, and the bytes from it on
pub record At : Type 0 where
  pub line : ℕ
  pub rest : List ℕ

infixl 10 ◌>>=◌
abbrev pub ◌>>=◌ : {A B E : Type 0} → Result A E → (A → Result B E) → Result B E
(Ok x) >>= f = f x
(Err e) >>= f = Err e

abbrev pub ok_map : {A B E : Type 0} → (A → B) → Result A E → Result B E
ok_map f (Ok x) = Ok (f x)
ok_map f (Err e) = Err e

-- what a function returned, seen by view, is what reading gives, unless memory ran out
abbrev pub Fails : {Y : Type 0} → CertFault → Result Y CertFault → Type 0
Fails fault.OutOfMemory read = Unit {0}
Fails f read = read ≡ Err f

abbrev pub Gives : {X Y : Type 0} → (X → Y) → Result X CertFault → Result Y CertFault → Type 0
Gives view (Ok x) read = read ≡ Ok (view x)
Gives view (Err e) read = Fails e read

-- what was read before, and what is still read
abbrev pub with_front : {X S : Type 0} → List X → Result (List X × S) CertFault → Result (List X × S) CertFault
with_front front read = read >>= λ x. Ok (front ++ x.0, x.1)

-- ---- lines and words

-- the bytes before the first such byte, and those after it
abbrev pub cut : ℕ → List ℕ → Option (List ℕ × List ℕ)
cut byte [] = None
cut byte (b ∷ bs) = if b == byte then Some ([], bs) else option_map (λ x. (b ∷ x.0, x.1)) (cut byte bs)

abbrev pub line_from : ℕ → Option (List ℕ × List ℕ) → Result (List ℕ × At) CertFault
line_from n None = Err (fault.Early n)
line_from n (Some x) = Ok (x.0, record { line = n + 1; rest = x.1 })

-- the next line, up to its line feed
unfoldable pub line_at : At → Result (List ℕ × At) CertFault
line_at p = line_from p.line (cut 10 p.rest)

abbrev pub fault_of : ℕ → Wrong → CertFault
fault_of n wrong.Words = fault.BadLine n
fault_of n wrong.Number = fault.Number n

-- what is wrong with a line, as a fault of the text
abbrev pub on_line : {A : Type 0} → ℕ → Result A Wrong → Result A CertFault
on_line n (Ok x) = Ok x
on_line n (Err w) = Err (fault_of n w)

-- the number that digits are
abbrev pub value_after : ℕ → List ℕ → ℕ
value_after n [] = n
value_after n (c ∷ cs) = value_after (10 * n + (c - 48)) cs

abbrev pub value : List ℕ → ℕ
value word = value_after 0 word

abbrev pub has_leading_zero : List ℕ → Bool
has_leading_zero word = slice_index word 0 == 48 && nat_lt 1 (length word)

abbrev pub is_between : ℕ → ℕ → ℕ → Bool
is_between low high n = nat_le low n && nat_le n high

-- one digit or more, and nothing else
abbrev pub is_number : List ℕ → Bool
is_number word = not (length word == 0 || not (all_ascii_digits word))

-- a word in digits, with no leading zero, in a range
unfoldable pub number_in : ℕ → ℕ → List ℕ → Result ℕ Wrong
number_in low high word =
    if length word == 0 || not (all_ascii_digits word) then Err wrong.Words
    else if has_leading_zero word || not (is_between low high (value word)) then Err wrong.Number
    else Ok (value word)

abbrev pub pair_from : ℕ → ℕ → ℕ → Option (List ℕ × List ℕ) → Result (ℕ × ℕ) Wrong
pair_from low high0 high1 None = Err wrong.Words
pair_from low high0 high1 (Some words) =
    if is_number words.1 then number_in low high0 words.0 >>= (λ a. number_in low high1 words.1 >>= (λ b. Ok (a, b)))
    else Err wrong.Words

-- two words in digits, each in its range; that they are numbers is judged of both before a range
unfoldable pub pair_in : ℕ → ℕ → ℕ → List ℕ → Result (ℕ × ℕ) Wrong
pair_in low high0 high1 text = pair_from low high0 high1 (cut 32 text)

-- ---- the lines of the head

-- the first line; versions 1 to 4 are known
unfoldable pub version_at : List ℕ → Result (ℕ × At) CertFault
version_at text =
    if starts_with nat_eq text (codes "ecplan 1\n") then Ok (1, record { line = 2; rest = drop 9 text })
    else if starts_with nat_eq text (codes "ecplan 2\n") then Ok (2, record { line = 2; rest = drop 9 text })
    else if starts_with nat_eq text (codes "ecplan 3\n") then Ok (3, record { line = 2; rest = drop 9 text })
    else if starts_with nat_eq text (codes "ecplan 4\n") then Ok (4, record { line = 2; rest = drop 9 text })
    else Err fault.Version

unfoldable pub slots_in : List ℕ → Result ℕ Wrong
slots_in line = if starts_with nat_eq line (codes "slots ") then number_in 1 8 (drop 6 line) else Err wrong.Words

unfoldable pub slots_at : At → Result (ℕ × At) CertFault
slots_at p = do
  l ← line_at p
  n ← on_line p.line (slots_in l.0)
  Ok (n, l.1)

abbrev pub unit_from : Option (List ℕ × List ℕ) → Result UnitLine Wrong
unit_from None = Err wrong.Words
unit_from (Some words) =
    if is_name words.0 then ok_map (λ n. record { name = words.0; bytes = n.0; period = n.1 }) (pair_in 1 1486 60 words.1)
    else Err wrong.Words

unfoldable pub unit_in : List ℕ → Result UnitLine Wrong
unit_in line = if starts_with nat_eq line (codes "unit ") then unit_from (cut 32 (drop 5 line)) else Err wrong.Words

unfoldable pub unit_at : At → Result (UnitLine × At) CertFault
unit_at p = do
  l ← line_at p
  u ← on_line p.line (unit_in l.0)
  Ok (u, l.1)

-- a line of a unit is next
abbrev pub is_unit_next : At → Bool
is_unit_next p = starts_with nat_eq p.rest (codes "unit ")

-- lines of units for as long as one is next, so many at most
abbrev pub units_from : ℕ → At → Result (List UnitLine × At) CertFault
units_from zero p = Ok ([], p)
units_from (suc n) p = if is_unit_next p then unit_at p >>= (λ u. units_from n u.1 >>= (λ us. Ok (u.0 ∷ us.0, us.1))) else Ok ([], p)

unfoldable pub first_unit_at : At → Result (List UnitLine × At) CertFault
first_unit_at p = do
  u ← unit_at p
  Ok (u.0 ∷ [], u.1)

-- 1 to 48 lines of units
unfoldable pub units_at : At → Result (List UnitLine × At) CertFault
units_at p = do
  u ← first_unit_at p
  with_front u.0 (units_from 47 u.1)

abbrev pub begins_with_number : Option (List ℕ × List ℕ) → (List ℕ → Bool) → Bool
begins_with_number None rest = false
begins_with_number (Some x) rest = is_number x.0 && rest x.1

-- words of digits with one space between, so many and one more
abbrev pub are_numbers : ℕ → List ℕ → Bool
are_numbers zero text = is_number text
are_numbers (suc n) text = begins_with_number (cut 32 text) (are_numbers n)

-- so many of what one reads
abbrev pub many_from : {X S : Type 0} → (S → Result (X × S) CertFault) → ℕ → S → Result (List X × S) CertFault
many_from one zero p = Ok ([], p)
many_from one (suc n) p = one p >>= (λ x. many_from one n x.1 >>= (λ xs. Ok (x.0 ∷ xs.0, xs.1)))

abbrev pub index_from : ℕ → ℕ → Option (List ℕ × List ℕ) → Result (ℕ × List ℕ) CertFault
index_from n high None = Err (fault.BadLine n)
index_from n high (Some x) = on_line n (number_in 0 high x.0) >>= (λ i. Ok (i, x.1))

-- the next of several numbers, and the words after it
unfoldable pub index_in : ℕ → ℕ → List ℕ → Result (ℕ × List ℕ) CertFault
index_in n high text = index_from n high (cut 32 text)

-- the numbers that so many words and one more are, none of them above `high`
unfoldable pub indexes_in : ℕ → ℕ → ℕ → List ℕ → Result (List ℕ) CertFault
indexes_in n more high text = many_from (index_in n high) more text >>= (λ is. on_line n (number_in 0 high is.1) >>= (λ i. Ok (is.0 ++ i ∷ [])))

-- a word for each of so many units, each the number of a unit; that they are numbers is judged of all before a range
unfoldable pub order_in : ℕ → ℕ → List ℕ → Result (List ℕ) CertFault
order_in n units line =
    if starts_with nat_eq line (codes "order ") && are_numbers (units - 1) (drop 6 line) then indexes_in n (units - 1) (units - 1) (drop 6 line)
    else Err (fault.BadLine n)

unfoldable pub order_at : ℕ → At → Result (List ℕ × At) CertFault
order_at units p = do
  l ← line_at p
  order ← order_in p.line units l.0
  Ok (order, l.1)

unfoldable pub place_in : List ℕ → Result Place Wrong
place_in line =
    if starts_with nat_eq line (codes "place ") then ok_map (λ n. record { phase = n.0; slot = n.1 }) (pair_in 0 59 7 (drop 6 line))
    else Err wrong.Words

unfoldable pub place_at : At → Result (Place × At) CertFault
place_at p = do
  l ← line_at p
  place ← on_line p.line (place_in l.0)
  Ok (place, l.1)

unfoldable pub value_in : List ℕ → Result ℕ Wrong
value_in line = if starts_with nat_eq line (codes "value ") then number_in 84 12304 (drop 6 line) else Err wrong.Words

abbrev pub best_with : ℕ → List Place → Option Best
best_with value places = Some (record { busiest = value; plan = record { places = places } })

-- no value, or a value and a place for each of so many units
unfoldable pub best_at : ℕ → At → Result (Option Best × At) CertFault
best_at units p = do
  l ← line_at p
  if bytes_eq l.0 (codes "value none") then Ok (None, l.1)
      else on_line p.line (value_in l.0) >>= (λ v. many_from place_at units l.1 >>= (λ ps. Ok (best_with v ps.0, ps.1)))

unfoldable pub level_in : List ℕ → Result ℕ Wrong
level_in line = if starts_with nat_eq line (codes "level ") then number_in 0 12304 (drop 6 line) else Err wrong.Words

unfoldable pub level_line_at : At → Result (ℕ × At) CertFault
level_line_at p = do
  l ← line_at p
  n ← on_line p.line (level_in l.0)
  Ok (n, l.1)

-- a level, or that there is none
unfoldable pub level_or_none_in : List ℕ → Result (Option ℕ) Wrong
level_or_none_in line = if bytes_eq line (codes "level none") then Ok None else ok_map Some (level_in line)

unfoldable pub level_or_none_at : At → Result (Option ℕ × At) CertFault
level_or_none_at p = do
  l ← line_at p
  n ← on_line p.line (level_or_none_in l.0)
  Ok (n, l.1)

-- the level: texts of version 3 have one, those from version 4 on have one or say that there is none
unfoldable pub level_at : ℕ → At → Result (Option ℕ × At) CertFault
level_at version p =
    if nat_le 4 version then level_or_none_at p
    else if nat_le 3 version then level_line_at p >>= (λ n. Ok (Some n.0, n.1))
    else Ok (None, p)

-- ---- the tree

-- the line before the tree
unfoldable pub start_at : At → Result At CertFault
start_at p = do
  l ← line_at p
  if bytes_eq l.0 (codes "tree") then Ok l.1 else Err (fault.BadLine p.line)

-- what a line of a node says, of a kind that every version has
unfoldable pub node_in : List ℕ → Result Node Wrong
node_in line =
    if starts_with nat_eq line (codes "S ") then ok_map node.Split (number_in 1 480 (drop 2 line))
    else if starts_with nat_eq line (codes "T ") then ok_map node.TickLeaf (number_in 0 1023 (drop 2 line))
    else if starts_with nat_eq line (codes "F ") then ok_map (λ n. node.FullLeaf n.0 n.1) (pair_in 0 1023 7 (drop 2 line))
    else if bytes_eq line (codes "A") then Ok node.Average
    else Err wrong.Words

-- how many spaces bytes have
abbrev pub space_count : List ℕ → ℕ
space_count [] = 0
space_count (b ∷ bs) = if b == 32 then 1 + space_count bs else space_count bs

-- 1 to 1024 words, each a weight; that they are numbers is judged of all before a range
unfoldable pub weights_in : ℕ → List ℕ → Result (List ℕ) CertFault
weights_in n text =
    if nat_le (space_count text) 1023 && are_numbers (space_count text) text then indexes_in n (space_count text) 65535 text
    else Err (fault.BadLine n)

-- numbers two by two
abbrev pub pairs_of : List ℕ → List Pair
pairs_of [] = []
pairs_of (k ∷ []) = []
pairs_of (k ∷ x ∷ rest) = record { count = k; room = x } ∷ pairs_of rest

-- the room of a pair is at most 12304
abbrev pub is_room : Pair → Bool
is_room pair = nat_le pair.room 12304

-- the pairs that numbers are, two by two
abbrev pub pairs_from : ℕ → List ℕ → Result (List Pair) CertFault
pairs_from n numbers = if list_all is_room (pairs_of numbers) then Ok (pairs_of numbers) else Err (fault.Number n)

-- so many spaces between as many words as 1 to 48 pairs have
abbrev pub is_pair_count : ℕ → Bool
is_pair_count spaces = nat_le spaces 95 && (spaces % 2 == 1)

-- 1 to 48 pairs of words, each a count and a room; that they are numbers is judged of all before a range
unfoldable pub groups_in : ℕ → List ℕ → Result (List Pair) CertFault
groups_in n text =
    if is_pair_count (space_count text) && are_numbers (space_count text) text then indexes_in n (space_count text) 65535 text >>= pairs_from n
    else Err (fault.BadLine n)

-- what a line of a node says, of a kind that every version has, or of one that the strong rules have
unfoldable pub room_in : List ℕ → Result Node Wrong
room_in line =
    if starts_with nat_eq line (codes "N ") then ok_map (λ n. node.Count n.0 n.1) (pair_in 1 60 1486 (drop 2 line))
    else if bytes_eq line (codes "M") then Ok node.Merge
    else node_in line

-- by the strong rules, or not
abbrev pub kind_in : Bool → List ℕ → Result Node Wrong
kind_in rooms line = if rooms then room_in line else node_in line

-- what a line of a node says in a text that has leaves of these kinds
unfoldable pub node_on : Kinds → ℕ → List ℕ → Result Node CertFault
node_on kinds n line =
    if starts_with nat_eq line (codes "W ") && kinds.weights then ok_map node.Weights (weights_in n (drop 2 line))
    else if starts_with nat_eq line (codes "G ") && kinds.rooms then ok_map node.Groups (groups_in n (drop 2 line))
    else if bytes_eq line (codes "O") && kinds.left_open then Ok node.OpenLeaf
    else on_line n (kind_in kinds.rooms line)

-- the line of a node, where the tree may have so many levels from it on
unfoldable pub node_at : Kinds → ℕ → At → Result (Node × At) CertFault
node_at kinds levels p = do
  l ← line_at p
  h ← if bytes_eq l.0 (codes "end") then Err (fault.Early p.line) else node_on kinds p.line l.0
  if levels == 0 then Err (fault.TooDeep p.line) else Ok (h, l.1)

-- a node with what stands below its line
abbrev pub below : (At → Result (Shape × At) CertFault) → Node → At → Result (Shape × At) CertFault
below one (node.Split n) p = many_from one n p >>= (λ ts. Ok (split (shapes ts.0), ts.1))
below one (node.TickLeaf t) p = Ok (leaf (tick t), p)
below one (node.FullLeaf t s) p = Ok (leaf (full t s), p)
below one node.Average p = Ok (leaf average, p)
below one (node.Weights w) p = Ok (leaf (weighted w), p)
below one node.OpenLeaf p = Ok (open_leaf, p)
below one node.Merge p = Ok (leaf merging, p)
below one (node.Count q c) p = Ok (leaf (counted q c), p)
below one (node.Groups pairs) p = Ok (leaf (grouped pairs), p)

-- a tree of so many levels at most
unfoldable pub tree_at : Kinds → ℕ → At → Result (Shape × At) CertFault
tree_at kinds zero p = node_at kinds 0 p >>= (λ h. Err (fault.TooDeep p.line))
tree_at kinds (suc d) p = node_at kinds (suc d) p >>= (λ h. below (tree_at kinds d) h.0 h.1)

-- ---- the whole

-- nothing follows
abbrev pub nothing_at : At → Result (Unit {0}) CertFault
nothing_at p = if length p.rest == 0 then Ok tt else line_at p >>= (λ l. Err (fault.Late p.line))

-- the last line, and nothing after it
unfoldable pub end_at : At → Result (Unit {0}) CertFault
end_at p = do
  l ← line_at p
  if bytes_eq l.0 (codes "end") then nothing_at l.1 else Err (fault.Late p.line)

-- the lines after the first
unfoldable pub parts_at : ℕ → At → Result CertView CertFault
parts_at version p = do
  slots ← slots_at p
  units ← units_at slots.1
  order ← order_at (length units.0) units.1
  best ← best_at (length units.0) order.1
  level ← level_at version best.1
  start ← start_at level.1
  tree ← tree_at (kinds_in version level.0) 49 start
  last ← end_at tree.1
  Ok (record { version = version; slots = slots.0; units = units.0; order = order.0; best = best.0; level = level.0; tree = tree.0 })

-- a line feed, or one of the 95 bytes from the space to `~`
abbrev pub is_text_byte : ℕ → Bool
is_text_byte b = (b == 10) || is_between 32 126 b

-- what a text says, or why it says nothing
unfoldable pub reading : List ℕ → Result CertView CertFault
reading text =
    if nat_lt 67108864 (length text) then Err fault.TooLarge
    else if list_all is_text_byte text then version_at text >>= (λ v. parts_at v.0 v.1)
    else Err fault.NotText
