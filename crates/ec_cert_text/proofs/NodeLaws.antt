-- Trees: what is read is spelled so, and is read again.
-- `node_spelled` serves the fast reader of a node's line: it turns `BeginsWithNode` into what `node_at` answers. What
-- the fast reader doesn't answer goes to the judging one, so no fault is proved twice. A new node is a case of `Node`,
-- `node_in`, `node_lines`, `below` and `HasLevels`, with its two laws.
use Rattle.std.proofs.Common.{◌≡◌, ℕ, zero, suc, ◌+◌, ◌<◌, Bool, true, false, ◌&&◌, ◌==◌, cond, nat_eq, List, [], ◌∷◌, ◌++◌, drop, codes, Result, Ok, Err, refl, ap, sym, ◌∙◌, arith, inl, inr, append_assoc}
use Rattle.std.specs.List.{starts_with, flat_map, AllByRecursion}
use Rattle.std.specs.Str.{bytes_eq}
use Rattle.std.specs.Fmt.{decimal}
use Rattle.std.proofs.lemmas.Bool.{and_parts, false≢true}
use Rattle.std.proofs.lemmas.Bool.Decides.{nat_tests}
use Rattle.ec_loads.specs.declared.pair.Pair.{Pair}
use Rattle.ec_loads.specs.Shape.{Leaf, tick, full, average, weighted, merging, counted, grouped, Shape, split, leaf, open_leaf, Shapes, no_shapes, more, shape_count}
use Rattle.ec_cert_text.specs.declared.fault.CertFault.{CertFault}
use Rattle.ec_cert_text.specs.declared.fault.CertFault.TheVariants as fault
use Rattle.ec_cert_text.specs.declared.words.Wrong.TheVariants as wrong
use Rattle.ec_cert_text.specs.declared.nodes.Node.{Node}
use Rattle.ec_cert_text.specs.declared.nodes.Node.TheVariants as node
use Rattle.ec_cert.specs.declared.kinds.Kinds.{Kinds}
use Rattle.ec_cert.specs.Shapes.{shapes}
use Rattle.ec_cert_text.specs.Reading.{At, line_at, number_in, pair_in, ok_map, many_from, node_in, weights_in, groups_in, room_in, kind_in, node_on, node_at, below, tree_at}
use Rattle.ec_cert.specs.WellFormed.{IsCountLine, IsLeafLine, HasLevels, HaveLevels}
use Rattle.ec_cert_text.specs.NodeWords.{node_words, NodeFits, plain_kinds, BeginsWithNode}
use Rattle.ec_cert_text.specs.Text.{index_word, pair_words, leaf_line, node_lines, row_lines}
use Rattle.ec_cert.proofs.TreeLemmas.{shape_count-shapes}
use Rattle.ec_cert_text.proofs.WordLaws.{if_err, bind_ok, chosen, ok_map_ok, on_line_ok, lacks, lacks-append, decimal_lacks, number_found, number_again, pair_found, pair_again, begins, same_bytes, line_found, line_again}
use Rattle.ec_cert_text.proofs.ManyLaws.{Spells, many_found}
use Rattle.ec_cert_text.proofs.HeadLaws.{regroup_1, regroup_2}
use Rattle.ec_cert_text.proofs.WeightLaws.{weights_found, weights_again, weights_lack}
use Rattle.ec_cert_text.proofs.GroupLaws.{groups_found, groups_again, groups_lack}

-- ---- lines of nodes

split_found : (line : List ℕ) (h : Node) → starts_with nat_eq line (codes "S ") ≡ true → ok_map node.Split (number_in 1 480 (drop 2 line)) ≡ Ok h → NodeFits plain_kinds h × (line ≡ node_words h)
split_found line h b e =
    let (n, read, is) = ok_map_ok _ _ h e in
    let (text, low, high) = number_found 1 480 (drop 2 line) n (omega arith) read in
    rw (← is) ((low, high), begins line (codes "S ") b ∙ ap (λ l. codes "S " ++ l) text)

tick_found : (line : List ℕ) (h : Node) → starts_with nat_eq line (codes "T ") ≡ true → ok_map node.TickLeaf (number_in 0 1023 (drop 2 line)) ≡ Ok h → NodeFits plain_kinds h × (line ≡ node_words h)
tick_found line h b e =
    let (n, read, is) = ok_map_ok _ _ h e in
    let (text, low, high) = number_found 0 1023 (drop 2 line) n (omega arith) read in
    rw (← is) (high, begins line (codes "T ") b ∙ ap (λ l. codes "T " ++ l) text)

full_found : (line : List ℕ) (h : Node) → starts_with nat_eq line (codes "F ") ≡ true → ok_map (λ n. node.FullLeaf n.0 n.1) (pair_in 0 1023 7 (drop 2 line)) ≡ Ok h → NodeFits plain_kinds h × (line ≡ node_words h)
full_found line h b e =
    let (n, read, is) = ok_map_ok _ (pair_in 0 1023 7 (drop 2 line)) h e in
    let (text, first, second) = pair_found 0 1023 7 (drop 2 line) n (omega arith) (omega arith) read in
    rw (← is) ((first.1, second.1), begins line (codes "F ") b ∙ ap (λ l. codes "F " ++ l) text)

average_found : (line : List ℕ) (h : Node) (b : Bool) → bytes_eq line (codes "A") ≡ b → cond b (Ok node.Average) (Err wrong.Words) ≡ Ok h → NodeFits plain_kinds h × (line ≡ node_words h)
average_found line h true b e = let is : node.Average ≡ h = cc in rw (← is) (tt, same_bytes line (codes "A") b)
average_found line h false b e = absurd cc

node_in_found : (line : List ℕ) (h : Node) → node_in line ≡ Ok h → NodeFits plain_kinds h × (line ≡ node_words h)
unfolding node_in
node_in_found line h e =
    elim (chosen (starts_with nat_eq line (codes "S ")) _ _ _ e) [
      | inl s ↦ split_found line h s.0 s.1
      | inr s ↦ elim (chosen (starts_with nat_eq line (codes "T ")) _ _ _ s.1) [
        | inl t ↦ tick_found line h t.0 t.1
        | inr t ↦ elim (chosen (starts_with nat_eq line (codes "F ")) _ _ _ t.1) [
          | inl f ↦ full_found line h f.0 f.1
          | inr f ↦ average_found line h (bytes_eq line (codes "A")) refl f.1
        ]
      ]
    ]

-- a node that every version has
fits_each : (kinds : Kinds) (h : Node) → NodeFits plain_kinds h → NodeFits kinds h
fits_each kinds (node.Split n) f = f
fits_each kinds (node.TickLeaf t) f = f
fits_each kinds (node.FullLeaf t s) f = f
fits_each kinds node.Average f = tt
fits_each kinds (node.Weights w) f = absurd (false≢true f.0)
fits_each kinds node.OpenLeaf f = absurd (false≢true f)
fits_each kinds node.Merge f = absurd (false≢true f)
fits_each kinds (node.Count p c) f = absurd (false≢true f.0)
fits_each kinds (node.Groups pairs) f = absurd (false≢true f.0)

count_found : (kinds : Kinds) (line : List ℕ) (h : Node) → kinds.rooms ≡ true → starts_with nat_eq line (codes "N ") ≡ true → ok_map (λ n. node.Count n.0 n.1) (pair_in 1 60 1486 (drop 2 line)) ≡ Ok h → NodeFits kinds h × (line ≡ node_words h)
count_found kinds line h may b e =
    let (n, read, is) = ok_map_ok _ (pair_in 1 60 1486 (drop 2 line)) h e in
    let (text, first, second) = pair_found 1 60 1486 (drop 2 line) n (omega arith) (omega arith) read in
    rw (← is) ((may, (first, second)), begins line (codes "N ") b ∙ ap (λ l. codes "N " ++ l) text)

merge_found : (kinds : Kinds) (line : List ℕ) (h : Node) (b : Bool) → kinds.rooms ≡ true → bytes_eq line (codes "M") ≡ b → cond b (Ok node.Merge) (node_in line) ≡ Ok h → NodeFits kinds h × (line ≡ node_words h)
merge_found kinds line h true may b e = let is : node.Merge ≡ h = cc in rw (← is) (may, same_bytes line (codes "M") b)
merge_found kinds line h false may b e =
    let (fits, text) = node_in_found line h e in
    (fits_each kinds h fits, text)

room_in_found : (kinds : Kinds) (line : List ℕ) (h : Node) → kinds.rooms ≡ true → room_in line ≡ Ok h → NodeFits kinds h × (line ≡ node_words h)
unfolding room_in
room_in_found kinds line h may e =
    elim (chosen (starts_with nat_eq line (codes "N ")) _ _ _ e) [
      | inl n ↦ count_found kinds line h may n.0 n.1
      | inr n ↦ merge_found kinds line h (bytes_eq line (codes "M")) may refl n.1
    ]

kind_in_found : (kinds : Kinds) (line : List ℕ) (h : Node) (rooms : Bool) → kinds.rooms ≡ rooms → kind_in rooms line ≡ Ok h → NodeFits kinds h × (line ≡ node_words h)
kind_in_found kinds line h true may e = room_in_found kinds line h may e
kind_in_found kinds line h false may e =
    let (fits, text) = node_in_found line h e in
    (fits_each kinds h fits, text)

node_on_found : (kinds : Kinds) (n : ℕ) (line : List ℕ) (h : Node) → node_on kinds n line ≡ Ok h → NodeFits kinds h × (line ≡ node_words h)
unfolding node_on
node_on_found kinds n line h e =
    elim (chosen (starts_with nat_eq line (codes "W ") && kinds.weights) _ _ _ e) [
      | inl y ↦
          let (starts, may) = and_parts (starts_with nat_eq line (codes "W ")) kinds.weights y.0 in
          let (w, read, is) = ok_map_ok node.Weights (weights_in n (drop 2 line)) h y.1 in
          let (fits, text) = weights_found n (drop 2 line) w read in
          rw (← is) ((may, fits), begins line (codes "W ") starts ∙ ap (λ l. codes "W" ++ l) text)
      | inr y ↦ elim (chosen (starts_with nat_eq line (codes "G ") && kinds.rooms) _ _ _ y.1) [
        | inl g ↦
            let (starts, may) = and_parts (starts_with nat_eq line (codes "G ")) kinds.rooms g.0 in
            let (pairs, read, is) = ok_map_ok node.Groups (groups_in n (drop 2 line)) h g.1 in
            let (fits, text) = groups_found n (drop 2 line) pairs read in
            rw (← is) ((may, fits), begins line (codes "G ") starts ∙ ap (λ l. codes "G" ++ l) text)
        | inr g ↦ elim (chosen (bytes_eq line (codes "O") && kinds.left_open) _ _ _ g.1) [
          | inl z ↦
              let (same, may) = and_parts (bytes_eq line (codes "O")) kinds.left_open z.0 in
              let is : node.OpenLeaf ≡ h = cc (z.1) in
              rw (← is) (may, same_bytes line (codes "O") same)
          | inr z ↦ kind_in_found kinds line h kinds.rooms refl (on_line_ok n (kind_in kinds.rooms line) h z.1)
        ]
      ]
    ]

node_in_again : (h : Node) → NodeFits plain_kinds h → node_in (node_words h) ≡ Ok h
unfolding node_in
node_in_again (node.Split n) f = rw (number_again 1 480 n (omega arith) f.0 f.1) refl
node_in_again (node.TickLeaf t) f = rw (number_again 0 1023 t (omega arith) (omega arith) f) refl
node_in_again (node.FullLeaf t s) f = rw (pair_again 0 1023 7 t s (omega arith) (omega arith) (omega arith) f.0 (omega arith) f.1) refl
node_in_again node.Average f = refl
node_in_again (node.Weights w) f = absurd (false≢true f.0)
node_in_again node.OpenLeaf f = absurd (false≢true f)
node_in_again node.Merge f = absurd (false≢true f)
node_in_again (node.Count p c) f = absurd (false≢true f.0)
node_in_again (node.Groups pairs) f = absurd (false≢true f.0)

-- a line that begins neither as a count nor as a merge is read by the strong rules as by the others
plain_again : (h : Node) (rooms : Bool) → NodeFits plain_kinds h → kind_in rooms (node_words h) ≡ Ok h
unfolding room_in
plain_again h false f = node_in_again h f
plain_again (node.Split n) true f = node_in_again (node.Split n) f
plain_again (node.TickLeaf t) true f = node_in_again (node.TickLeaf t) f
plain_again (node.FullLeaf t s) true f = node_in_again (node.FullLeaf t s) f
plain_again node.Average true f = node_in_again node.Average f
plain_again (node.Weights w) true f = absurd (false≢true f.0)
plain_again node.OpenLeaf true f = absurd (false≢true f)
plain_again node.Merge true f = absurd (false≢true f)
plain_again (node.Count p c) true f = absurd (false≢true f.0)
plain_again (node.Groups pairs) true f = absurd (false≢true f.0)

count_again : (p c : ℕ) → IsCountLine p c → room_in (node_words (node.Count p c)) ≡ Ok (node.Count p c)
unfolding room_in
count_again p c f = rw (pair_again 1 60 1486 p c (omega arith) (omega arith) f.0.0 f.0.1 f.1.0 f.1.1) refl

merge_again : room_in (node_words node.Merge) ≡ Ok node.Merge
unfolding room_in
merge_again = refl

node_on_again : (kinds : Kinds) (n : ℕ) (h : Node) → NodeFits kinds h → node_on kinds n (node_words h) ≡ Ok h
unfolding node_on
node_on_again kinds n (node.Split k) f = rw (plain_again (node.Split k) kinds.rooms f) refl
node_on_again kinds n (node.TickLeaf t) f = rw (plain_again (node.TickLeaf t) kinds.rooms f) refl
node_on_again kinds n (node.FullLeaf t s) f = rw (plain_again (node.FullLeaf t s) kinds.rooms f) refl
node_on_again kinds n node.Average f = rw (plain_again node.Average kinds.rooms tt) refl
node_on_again kinds n (node.Weights w) f =
    let again = weights_again n w f.1 in
    rw (← again.spelled, f.0, again.read) refl
node_on_again kinds n node.OpenLeaf f = rw f refl
node_on_again kinds n node.Merge f = rw (f, merge_again) refl
node_on_again kinds n (node.Count p c) f = rw (f.0, count_again p c f.1) refl
node_on_again kinds n (node.Groups pairs) f =
    let again = groups_again n pairs f.1 in
    rw (← again.spelled, f.0, again.read) refl

node_lacks : (kinds : Kinds) (h : Node) → NodeFits kinds h → lacks 10 (node_words h) ≡ true
node_lacks kinds (node.Split n) f = decimal_lacks 10 n (omega arith) (omega (arith, f.1))
node_lacks kinds (node.TickLeaf t) f = decimal_lacks 10 t (omega arith) (omega arith)
node_lacks kinds (node.FullLeaf t s) f = lacks-append 10 (decimal t) (32 ∷ decimal s) (decimal_lacks 10 t (omega arith) (omega (arith, f.0))) (decimal_lacks 10 s (omega arith) (omega (arith, f.1)))
node_lacks kinds node.Average f = refl
node_lacks kinds (node.Weights w) f = weights_lack w f.1
node_lacks kinds node.OpenLeaf f = refl
node_lacks kinds node.Merge f = refl
node_lacks kinds (node.Count p c) f =
    lacks-append 10 (decimal p) (32 ∷ decimal c) (decimal_lacks 10 p (omega arith) (omega (arith, f.1.0.1))) (decimal_lacks 10 c (omega arith) (omega (arith, f.1.1.1)))
node_lacks kinds (node.Groups pairs) f = groups_lack pairs f.1

node_no_end : (h : Node) → bytes_eq (node_words h) (codes "end") ≡ false
node_no_end (node.Split n) = refl
node_no_end (node.TickLeaf t) = refl
node_no_end (node.FullLeaf t s) = refl
node_no_end node.Average = refl
node_no_end (node.Weights w) = refl
node_no_end node.OpenLeaf = refl
node_no_end node.Merge = refl
node_no_end (node.Count p c) = refl
node_no_end (node.Groups pairs) = refl

node_found : (kinds : Kinds) (d : ℕ) (p : At) (x : Node × At) → node_at kinds d p ≡ Ok x → NodeFits kinds x.0 × (p.rest ≡ node_words x.0 ++ 10 ∷ x.1.rest) × (0 < d)
unfolding node_at
node_found kinds d p x e =
    let (l, read, then) = bind_ok (line_at p) _ x e in
    let (h, said, rest) = bind_ok (cond (bytes_eq l.0 (codes "end")) (Err (fault.Early p.line)) (node_on kinds p.line l.0)) _ x then in
    let (no_end, head_is) = if_err _ _ _ _ said in
    let (deep, is) = if_err (d == 0) _ _ _ rest in
    let (fits, line_is) = node_on_found kinds p.line l.0 h head_is in
    let same : (h, l.1) ≡ x = cc (is) in
    rw (← same) (fits, line_found p l read ∙ ap (λ t. t ++ 10 ∷ l.1.rest) line_is, grind (arith, nat_tests))

node_again : (kinds : Kinds) (d n : ℕ) (h : Node) (rest : List ℕ) → NodeFits kinds h → node_at kinds (suc d) (record { line = n; rest = node_words h ++ 10 ∷ rest }) ≡ Ok (h, record { line = n + 1; rest = rest })
unfolding node_at
node_again kinds d n h rest f =
    let deep : (suc d == 0) ≡ false = grind (arith, nat_tests) in
    rw (line_again n (node_words h) rest (node_lacks kinds h f), node_no_end h, node_on_again kinds n h f, deep) refl

pub node_spelled : (kinds : Kinds) (d n : ℕ) (text rest : List ℕ) (h : Node) → 0 < d → BeginsWithNode text h rest → node_at kinds d (record { line = n; rest = text }) ≡ Ok (h, record { line = n + 1; rest = rest })
node_spelled kinds zero n text rest h lt b = absurd (omega arith)
node_spelled kinds (suc d) n text rest h lt b = rw b.1 (node_again kinds d n h rest (fits_each kinds h b.0))

-- the line of a tick's leaf is a tree
pub tick_spelled : (kinds : Kinds) (d n t : ℕ) (text rest : List ℕ) → 0 < d → BeginsWithNode text (node.TickLeaf t) rest → tree_at kinds d (record { line = n; rest = text }) ≡ Ok (leaf (tick t), record { line = n + 1; rest = rest })
unfolding tree_at
tick_spelled kinds zero n t text rest lt b = absurd (omega arith)
tick_spelled kinds (suc d) n t text rest lt b = rw (node_spelled kinds (suc d) n text rest (node.TickLeaf t) lt b) refl

-- ---- trees

-- a fault of its first line is that of a tree
pub tree_fails : (kinds : Kinds) (d : ℕ) (p : At) (e : CertFault) → node_at kinds d p ≡ Err e → tree_at kinds d p ≡ Err e
unfolding tree_at
tree_fails kinds zero p e h = rw h refl
tree_fails kinds (suc d) p e h = rw h refl

HaveLevels-shapes : (kinds : Kinds) (d : ℕ) (ss : List Shape) → AllByRecursion (HasLevels kinds d) ss → HaveLevels kinds d (shapes ss)
HaveLevels-shapes kinds d [] h = tt
HaveLevels-shapes kinds d (s ∷ ss) h = (h.0, HaveLevels-shapes kinds d ss h.1)

row_lines-shapes : (ss : List Shape) → row_lines (shapes ss) ≡ flat_map node_lines ss
row_lines-shapes [] = refl
row_lines-shapes (s ∷ ss) = ap (λ l. node_lines s ++ l) (row_lines-shapes ss)

abbrev at_bytes : At → List ℕ
at_bytes p = p.rest

tick_text : (t : ℕ) (rest : List ℕ) → node_words (node.TickLeaf t) ++ 10 ∷ rest ≡ leaf_line (tick t) ++ rest
tick_text t rest = ap (λ l. codes "T " ++ l) (regroup_1 (decimal t) rest)

full_text : (t s : ℕ) (rest : List ℕ) → node_words (node.FullLeaf t s) ++ 10 ∷ rest ≡ leaf_line (full t s) ++ rest
full_text t s rest = ap (λ l. codes "F " ++ l) (regroup_2 (decimal t) (decimal s) rest)

weights_text : (w rest : List ℕ) → node_words (node.Weights w) ++ 10 ∷ rest ≡ leaf_line (weighted w) ++ rest
weights_text w rest = ap (λ l. codes "W" ++ l) (regroup_1 (flat_map index_word w) rest)

count_text : (q c : ℕ) (rest : List ℕ) → node_words (node.Count q c) ++ 10 ∷ rest ≡ leaf_line (counted q c) ++ rest
count_text q c rest = ap (λ l. codes "N " ++ l) (regroup_2 (decimal q) (decimal c) rest)

groups_text : (pairs : List Pair) (rest : List ℕ) → node_words (node.Groups pairs) ++ 10 ∷ rest ≡ leaf_line (grouped pairs) ++ rest
groups_text pairs rest = ap (λ l. codes "G" ++ l) (regroup_1 (flat_map pair_words pairs) rest)

split_text : (n : ℕ) (ss : Shapes) (rest found : List ℕ) → shape_count ss ≡ n → found ≡ row_lines ss ++ rest → node_words (node.Split n) ++ 10 ∷ found ≡ node_lines (split ss) ++ rest
split_text n ss rest found c e =
    let line : (decimal n ++ 10 ∷ []) ++ (row_lines ss ++ rest) ≡ ((decimal n ++ 10 ∷ []) ++ row_lines ss) ++ rest = sym (append_assoc (decimal n ++ 10 ∷ []) (row_lines ss) rest) in
    rw (e, c) (ap (λ l. codes "S " ++ l) (regroup_1 (decimal n) (row_lines ss ++ rest) ∙ line))

below_found : (kinds : Kinds) (d : ℕ) (one : At → Result (Shape × At) CertFault) → Spells at_bytes node_lines (HasLevels kinds d) one → (h : Node) (p : At) (x : Shape × At) → NodeFits kinds h → below one h p ≡ Ok x
    → HasLevels kinds (suc d) x.0 × (node_words h ++ 10 ∷ p.rest ≡ node_lines x.0 ++ x.1.rest)
below_found kinds d one law (node.Split n) p x f e =
    let (ts, reads, last) = bind_ok (many_from one n p) _ x e in
    let is : (split (shapes ts.0), ts.1) ≡ x = cc in
    let (fit, many, spelled) = many_found at_bytes node_lines (HasLevels kinds d) one law n p ts reads in
    let count : shape_count (shapes ts.0) ≡ n = shape_count-shapes ts.0 ∙ many in
    let text : p.rest ≡ row_lines (shapes ts.0) ++ ts.1.rest = spelled ∙ ap (λ l. l ++ ts.1.rest) (sym (row_lines-shapes ts.0)) in
    rw (← is) ((omega arith, omega arith, HaveLevels-shapes kinds d ts.0 fit), split_text n (shapes ts.0) ts.1.rest p.rest count text)
below_found kinds d one law (node.TickLeaf t) p x f e =
    let is : (leaf (tick t), p) ≡ x = cc in
    rw (← is) (f, tick_text t p.rest)
below_found kinds d one law (node.FullLeaf t s) p x f e =
    let is : (leaf (full t s), p) ≡ x = cc in
    rw (← is) (f, full_text t s p.rest)
below_found kinds d one law node.Average p x f e =
    let is : (leaf average, p) ≡ x = cc in
    rw (← is) (tt, refl)
below_found kinds d one law (node.Weights w) p x f e =
    let is : (leaf (weighted w), p) ≡ x = cc in
    rw (← is) (f, weights_text w p.rest)
below_found kinds d one law node.OpenLeaf p x f e =
    let is : (open_leaf, p) ≡ x = cc in
    rw (← is) (f, refl)
below_found kinds d one law node.Merge p x f e =
    let is : (leaf merging, p) ≡ x = cc in
    rw (← is) (f, refl)
below_found kinds d one law (node.Count q c) p x f e =
    let is : (leaf (counted q c), p) ≡ x = cc in
    rw (← is) (f, count_text q c p.rest)
below_found kinds d one law (node.Groups pairs) p x f e =
    let is : (leaf (grouped pairs), p) ≡ x = cc in
    rw (← is) (f, groups_text pairs p.rest)

pub tree_found : (kinds : Kinds) (d : ℕ) → Spells at_bytes node_lines (HasLevels kinds d) (tree_at kinds d)
unfolding tree_at
tree_found kinds zero p x e = let (h, read, then) = bind_ok (node_at kinds 0 p) _ x e in absurd cc
tree_found kinds (suc d) p x e =
    let (h, read, then) = bind_ok (node_at kinds (suc d) p) _ x e in
    let (fits, line_is, deep) = node_found kinds (suc d) p h read in
    let rest = below_found kinds d (tree_at kinds d) (tree_found kinds d) h.0 h.1 x fits then in
    (rest.0, line_is ∙ rest.1)

abbrev pub list_of : Shapes → List Shape
list_of no_shapes = []
list_of (more s ss) = s ∷ list_of ss

shapes-list_of : (ss : Shapes) → shapes (list_of ss) ≡ ss
shapes-list_of no_shapes = refl
shapes-list_of (more s ss) = ap (more s) (shapes-list_of ss)

leaf_again : (kinds : Kinds) (d n : ℕ) (l : Leaf) (rest : List ℕ) → IsLeafLine kinds l → tree_at kinds (suc d) (record { line = n; rest = leaf_line l ++ rest }) ≡ Ok (leaf l, record { line = n + 1; rest = rest })
unfolding tree_at
leaf_again kinds d n (tick t) rest f = rw (← tick_text t rest, node_again kinds d n (node.TickLeaf t) rest f) refl
leaf_again kinds d n (full t s) rest f = rw (← full_text t s rest, node_again kinds d n (node.FullLeaf t s) rest f) refl
leaf_again kinds d n average rest f = rw (node_again kinds d n node.Average rest tt) refl
leaf_again kinds d n (weighted w) rest f = rw (← weights_text w rest, node_again kinds d n (node.Weights w) rest f) refl
leaf_again kinds d n merging rest f = rw (node_again kinds d n node.Merge rest f) refl
leaf_again kinds d n (counted p c) rest f = rw (← count_text p c rest, node_again kinds d n (node.Count p c) rest f) refl
leaf_again kinds d n (grouped pairs) rest f = rw (← groups_text pairs rest, node_again kinds d n (node.Groups pairs) rest f) refl

mutual
  unfolding tree_at

  pub tree_again : (kinds : Kinds) (d n : ℕ) (s : Shape) (rest : List ℕ) → HasLevels kinds d s → (m : ℕ) × (tree_at kinds d (record { line = n; rest = node_lines s ++ rest }) ≡ Ok (s, record { line = m; rest = rest }))
  tree_again kinds zero n s rest f = absurd f
  tree_again kinds (suc d) n (split ss) rest f =
      let (m, e) = trees_again kinds d (n + 1) ss rest f.2 in
      (m, rw (← split_text (shape_count ss) ss rest (row_lines ss ++ rest) refl refl, node_again kinds d n (node.Split (shape_count ss)) (row_lines ss ++ rest) (f.0, f.1), e, shapes-list_of ss) refl)
  tree_again kinds (suc d) n (leaf l) rest f = (n + 1, leaf_again kinds d n l rest f)
  tree_again kinds (suc d) n open_leaf rest f = (n + 1, rw (node_again kinds d n node.OpenLeaf rest f) refl)

  pub trees_again : (kinds : Kinds) (d n : ℕ) (ss : Shapes) (rest : List ℕ) → HaveLevels kinds d ss → (m : ℕ) × (many_from (tree_at kinds d) (shape_count ss) (record { line = n; rest = row_lines ss ++ rest }) ≡ Ok (list_of ss, record { line = m; rest = rest }))
  trees_again kinds d n no_shapes rest f = (n, refl)
  trees_again kinds d n (more s ss) rest f =
      let (m, e) = tree_again kinds d n s (row_lines ss ++ rest) f.0 in
      let (k, es) = trees_again kinds d m ss rest f.1 in
      (k, rw (append_assoc (node_lines s) (row_lines ss) rest, e, es) refl)
