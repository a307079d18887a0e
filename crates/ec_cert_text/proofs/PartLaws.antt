-- The parts of a certificate's text, each a reader of lines, and the whole.
-- In a `>>=` under a tuple, name the continuation by a typed `abbrev` (`with_rest`). A new line of the head is a reader
-- between two of `parts_at`.
use Rattle.std.proofs.Common.{◌≡◌, ℕ, zero, suc, ◌+◌, ◌-◌, ◌≤◌, Bool, true, false, ◌&&◌, ◌==◌, cond, nat_eq, nat_le, List, [], ◌∷◌, ◌++◌, length, drop, codes, Option, Some, None, Result, Ok, Err, refl, ap, sym, subst, ◌∙◌, arith, inl, inr}
use Rattle.std.proofs.Math.Path.{fun_ext}
use Rattle.std.specs.List.{starts_with, list_all}
use Rattle.std.specs.Str.{bytes_eq}
use Rattle.std.proofs.lemmas.Bool.{cases_lt}
use Rattle.std.proofs.lemmas.Bool.Decides.{nat_tests}
use Rattle.ec_loads.specs.Shape.{tick, full, average, weighted, merging, counted, grouped, Shape, split, leaf, open_leaf}
use Rattle.ec_cert_text.specs.declared.fault.CertFault.{CertFault}
use Rattle.ec_cert_text.specs.declared.fault.CertFault.TheVariants as fault
use Rattle.ec_cert_text.specs.declared.words.Wrong.{Wrong}
use Rattle.ec_cert_text.specs.declared.words.Wrong.TheVariants as wrong
use Rattle.ec_cert_text.specs.declared.nodes.Node.{Node}
use Rattle.ec_cert_text.specs.declared.nodes.Node.TheVariants as node
use Rattle.ec_cert.specs.declared.lists.UnitLine.{UnitLine}
use Rattle.ec_cert.specs.declared.cert.Best.{Best}
use Rattle.ec_cert.specs.declared.kinds.Kinds.{Kinds}
use Rattle.ec_cert.specs.LeafKinds.{kinds_in}
use Rattle.ec_cert.specs.Shapes.{CertView, shapes}
use Rattle.ec_cert_text.specs.Reading.{◌>>=◌, At, cut, line_at, fault_of, ok_map, on_line, number_in, with_front, slots_in, slots_at, unit_in, unit_at, is_unit_next, units_from, first_unit_at, units_at, are_numbers, many_from, index_from, index_in, indexes_in, order_in, order_at, place_in, place_at, value_in, best_with, best_at, level_in, level_line_at, level_or_none_in, level_or_none_at, level_at, start_at, kind_in, pairs_of, is_room, pairs_from, is_pair_count, groups_in, space_count, weights_in, node_on, node_at, below, tree_at, end_at, parts_at}
use Rattle.ec_cert_text.specs.Fronts.{feed_count, fault_line}
use Rattle.ec_cert_text.proofs.FrontLemmas.{at, Goes, Alike, IsReader, IsJudge, alike_none, is_done, is_then, is_many, judged, is_judged}
use Rattle.ec_cert_text.proofs.CloserLemmas.{IsCloser, is_closed, is_ending}

abbrev with_rest : {X : Type 0} → At → X → Result (X × At) CertFault
with_rest q x = Ok (x, q)

-- ---- what is wrong with a line is at the line

fault_of_line : (n : ℕ) (w : Wrong) → fault_line (fault_of n w) ≡ n
fault_of_line n wrong.Words = refl
fault_of_line n wrong.Number = refl

-- all faults of a result are at line n
abbrev AtLine : {A : Type 0} → ℕ → Result A CertFault → Type 0
AtLine n (Ok x) = Unit {0}
AtLine n (Err e) = fault_line e ≡ n

said_at : {A : Type 0} (n : ℕ) (r : Result A Wrong) → AtLine n (on_line n r)
said_at n (Ok x) = tt
said_at n (Err w) = fault_of_line n w

then_at : {A B : Type 0} (n : ℕ) (r : Result A CertFault) (f : A → Result B CertFault) → AtLine n r → ((x : A) → AtLine n (f x)) → AtLine n (r >>= f)
then_at n (Ok x) f h g = g x
then_at n (Err e) f h g = h

map_at : {A B : Type 0} (n : ℕ) (f : A → B) (r : Result A CertFault) → AtLine n r → AtLine n (ok_map f r)
map_at n f (Ok x) h = tt
map_at n f (Err e) h = h

chosen_at : {A : Type 0} (n : ℕ) (b : Bool) (u v : Result A CertFault) → AtLine n u → AtLine n v → AtLine n (cond b u v)
chosen_at n true u v h g = h
chosen_at n false u v h g = g

many_at : {X S : Type 0} (n : ℕ) (one : S → Result (X × S) CertFault) → ((s : S) → AtLine n (one s)) → (k : ℕ) (s : S) → AtLine n (many_from one k s)
many_at n one h zero s = tt
many_at n one h (suc k) s = then_at n (one s) _ (h s) (λ x. then_at n (many_from one k x.1) _ (many_at n one h k x.1) (λ xs. tt))

judge_of_by : {X : Type 0} (n : ℕ) (r : Result X CertFault) → AtLine n r → (e : CertFault) → r ≡ Err e → fault_line e ≡ n
judge_of_by n (Ok x) h e is = absurd cc
judge_of_by n (Err d) h e is = let same : d ≡ e = cc in ap fault_line (sym same) ∙ h

judge_of : {X : Type 0} (j : ℕ → List ℕ → Result X CertFault) → ((n : ℕ) (l : List ℕ) → AtLine n (j n l)) → IsJudge j
judge_of j h n l e is = judge_of_by n (j n l) (h n l) e is

-- ---- the head

is_said : {X : Type 0} (f : List ℕ → Result X Wrong) → IsReader (judged (λ n l. on_line n (f l)))
is_said f = is_judged (λ n l. on_line n (f l)) (judge_of (λ n l. on_line n (f l)) (λ n l. said_at n (f l)))

slots_reads : IsReader slots_at
unfolding slots_at
slots_reads = is_said slots_in

unit_reads : IsReader unit_at
unfolding unit_at
unit_reads = is_said unit_in

place_reads : IsReader place_at
unfolding place_at
place_reads = is_said place_in

index_at : (n high : ℕ) (o : Option (List ℕ × List ℕ)) → AtLine n (index_from n high o)
index_at n high None = refl
index_at n high (Some x) = then_at n (on_line n (number_in 0 high x.0)) _ (said_at n (number_in 0 high x.0)) (λ i. tt)

index_in_at : (n high : ℕ) (text : List ℕ) → AtLine n (index_in n high text)
unfolding index_in
index_in_at n high text = index_at n high (cut 32 text)

indexes_at : (n more high : ℕ) (text : List ℕ) → AtLine n (indexes_in n more high text)
unfolding indexes_in
indexes_at n more high text = then_at n (many_from (index_in n high) more text) _ (many_at n (index_in n high) (index_in_at n high) more text) (λ is. then_at n (on_line n (number_in 0 high is.1)) _ (said_at n (number_in 0 high is.1)) (λ i. tt))

order_in_at : (units n : ℕ) (line : List ℕ) → AtLine n (order_in n units line)
unfolding order_in
order_in_at units n line = chosen_at n (starts_with nat_eq line (codes "order ") && are_numbers (units - 1) (drop 6 line)) (indexes_in n (units - 1) (units - 1) (drop 6 line)) (Err (fault.BadLine n)) (indexes_at n (units - 1) (units - 1) (drop 6 line)) refl

order_reads : (units : ℕ) → IsReader (order_at units)
unfolding order_at
order_reads units = is_judged (λ n l. order_in n units l) (judge_of (λ n l. order_in n units l) (order_in_at units))

-- a line feed in a shows whether a text begins so
plain_by : (t : Bool) (n : ℕ) → cond t (1 + n) n ≡ 0 → (t ≡ false) × (n ≡ 0)
plain_by true n h = absurd (omega arith)
plain_by false n h = (refl, h)

starts_step : (b c : ℕ) (a w : List ℕ) (x y t : Bool) → (c == b) ≡ t → feed_count (c ∷ w) ≡ 0 → 1 ≤ feed_count (b ∷ a) → (feed_count w ≡ 0 → 1 ≤ feed_count a → x ≡ y) → (t && x) ≡ (t && y)
starts_step b c a w x y false is plain some ih = refl
starts_step b c a w x y true is plain some ih =
    let parts = plain_by (c == 10) (feed_count w) plain in
    let same : c ≡ b = grind (arith, nat_tests) in
    let other : (b == 10) ≡ false = ap (λ (i : ℕ). i == 10) (sym same) ∙ parts.0 in
    let one : feed_count (b ∷ a) ≡ feed_count a = rw other refl in
    ih parts.1 (omega arith)

-- such a front is known by its first byte
abbrev IsKnown : List ℕ → Type 0
IsKnown z = (b : ℕ) (a s : List ℕ) → starts_with nat_eq (b ∷ (a ++ s)) z ≡ starts_with nat_eq (b ∷ a) z

pub starts_front : (z : List ℕ) → IsKnown z → (a s w : List ℕ) → feed_count w ≡ 0 → 1 ≤ feed_count a → starts_with nat_eq (a ++ s) (w ++ z) ≡ starts_with nat_eq a (w ++ z)
starts_front z known [] s w plain some = absurd (omega arith)
starts_front z known (b ∷ a) s [] plain some = known b a s
starts_front z known (b ∷ a) s (c ∷ w) plain some = starts_step b c a w _ _ (c == b) refl plain some (λ p q. starts_front z known a s w p q)

next_front : (n : ℕ) (a s t : List ℕ) → 1 ≤ feed_count a → is_unit_next (at n (a ++ s)) ≡ is_unit_next (at n (a ++ t))
next_front n a s t some = starts_front [] (λ b l r. refl) a s (codes "unit ") refl some ∙ sym (starts_front [] (λ b l r. refl) a t (codes "unit ") refl some)

abbrev IsLookAhead : (At → Bool) → Type 0
IsLookAhead b = (n : ℕ) (a s t : List ℕ) → 1 ≤ feed_count a → b (at n (a ++ s)) ≡ b (at n (a ++ t))

cond_goes : {X : Type 0} (p : At) (b : Bool) (u v : Result (X × At) CertFault) → Goes p u → Goes p v → Goes p (cond b u v)
cond_goes p true u v g h = g
cond_goes p false u v g h = h

cond_alike : {X : Type 0} (n : ℕ) (s t : List ℕ) (b : Bool) (u v u' v' : Result (X × At) CertFault) → Alike n s t u u' → Alike n s t v v' → Alike n s t (cond b u v) (cond b u' v')
cond_alike n s t true u v u' v' g h = g
cond_alike n s t false u v u' v' g h = h

is_chosen : {X : Type 0} (b : At → Bool) (f g : At → Result (X × At) CertFault) → IsLookAhead b → IsReader f → IsReader g → IsReader (λ (p : At). cond (b p) (f p) (g p))
is_chosen b f g look hf hg =
    let goes = λ (p : At). cond_goes p (b p) (f p) (g p) (hf.goes p) (hg.goes p) in
    record {
      goes = goes;
      alike = λ n a s t.
          elim (cases_lt 0 (feed_count a)) [
            | inl some ↦ rw (look n a s t (omega arith)) (cond_alike (n + feed_count a) s t (b (at n (a ++ t))) _ _ _ _ (hf.alike n a s t) (hg.alike n a s t))
            | inr none ↦ alike_none (λ (p : At). cond (b p) (f p) (g p)) goes n a s t (omega arith)
          ];
    }

more_units_read : (k : ℕ) → IsReader (units_from k)
more_units_read zero = is_done []
more_units_read (suc k) =
    is_chosen is_unit_next (λ p. unit_at p >>= (λ u. units_from k u.1 >>= (λ us. Ok (u.0 ∷ us.0, us.1)))) (λ p. Ok ([], p)) next_front
    (is_then unit_at _ unit_reads (λ u. is_then (units_from k) _ (more_units_read k) (λ us. is_done (u ∷ us)))) (is_done [])

first_unit_reads : IsReader first_unit_at
unfolding first_unit_at
first_unit_reads = is_then unit_at _ unit_reads (λ u. is_done (u ∷ []))

units_read : IsReader units_at
unfolding units_at
units_read = is_then first_unit_at (λ u p. with_front u (units_from 47 p)) first_unit_reads (λ u. is_then (units_from 47) _ (more_units_read 47) (λ us. is_done (u ++ us)))

-- ---- the best plan

abbrev value_or_none : ℕ → List ℕ → Result (Option ℕ) CertFault
value_or_none n l = cond (bytes_eq l (codes "value none")) (Ok None) (on_line n (value_in l) >>= (λ v. Ok (Some v)))

value_judged : (n : ℕ) (l : List ℕ) → AtLine n (value_or_none n l)
value_judged n l = chosen_at n (bytes_eq l (codes "value none")) (Ok None) (on_line n (value_in l) >>= (λ v. Ok (Some v))) tt (then_at n (on_line n (value_in l)) (λ v. Ok (Some v)) (said_at n (value_in l)) (λ v. tt))

abbrev plan_at : ℕ → Option ℕ → At → Result (Option Best × At) CertFault
plan_at units None p = Ok (None, p)
plan_at units (Some v) p = many_from place_at units p >>= (λ ps. Ok (best_with v ps.0, ps.1))

plan_reads : (units : ℕ) (o : Option ℕ) → IsReader (plan_at units o)
plan_reads units None = is_done None
plan_reads units (Some v) = is_then (many_from place_at units) _ (is_many place_at place_reads units) (λ ps. is_done (best_with v ps))

abbrev best_by : ℕ → At → Result (Option Best × At) CertFault
best_by units p = judged value_or_none p >>= (λ v. plan_at units v.0 v.1)

best_line_same : (units n : ℕ) (l : List ℕ) (q : At) (test : Bool) (o : Result ℕ CertFault)
    → cond test (plan_at units None q) (o >>= (λ v. plan_at units (Some v) q)) ≡ ((cond test (Ok None) (o >>= (λ v. Ok (Some v))) >>= with_rest q) >>= (λ v. plan_at units v.0 v.1))
best_line_same units n l q true o = refl
best_line_same units n l q false (Ok v) = refl
best_line_same units n l q false (Err e) = refl

best_same_by : (units : ℕ) (p : At) (u : Result (List ℕ × At) CertFault)
    → (u >>= (λ l. cond (bytes_eq l.0 (codes "value none")) (plan_at units None l.1) (on_line p.line (value_in l.0) >>= (λ v. plan_at units (Some v) l.1))))
    ≡ ((u >>= (λ l. value_or_none p.line l.0 >>= with_rest l.1)) >>= (λ v. plan_at units v.0 v.1))
best_same_by units p (Ok l) = best_line_same units p.line l.0 l.1 (bytes_eq l.0 (codes "value none")) (on_line p.line (value_in l.0))
best_same_by units p (Err e) = refl

best_same : (units : ℕ) (p : At) → best_at units p ≡ best_by units p
unfolding best_at
best_same units p = best_same_by units p (line_at p)

best_reads : (units : ℕ) → IsReader (best_at units)
best_reads units =
    subst (IsReader {X = Option Best}) (sym (fun_ext (best_same units))) (is_then (judged value_or_none) (plan_at units) (is_judged value_or_none (judge_of value_or_none value_judged)) (plan_reads units))

-- ---- the level

level_line_reads : IsReader level_line_at
unfolding level_line_at
level_line_reads = is_said level_in

level_or_none_reads : IsReader level_or_none_at
unfolding level_or_none_at
level_or_none_reads = is_said level_or_none_in

level_reads_by : (b c : Bool) → IsReader (λ (p : At). cond b (level_or_none_at p) (cond c (level_line_at p >>= (λ n. Ok (Some n.0, n.1))) (Ok (None, p))))
level_reads_by true c = level_or_none_reads
level_reads_by false true = is_then level_line_at _ level_line_reads (λ n. is_done (Some n))
level_reads_by false false = is_done None

level_reads : (version : ℕ) → IsReader (level_at version)
unfolding level_at
level_reads version = level_reads_by (nat_le 4 version) (nat_le 3 version)

-- ---- the tree

abbrev due_line : Bool → ℕ → Result (Unit {0}) CertFault
due_line test n = cond test (Ok tt) (Err (fault.BadLine n))

abbrev start_in : ℕ → List ℕ → Result (Unit {0}) CertFault
start_in n l = due_line (bytes_eq l (codes "tree")) n

start_reads : IsReader (judged start_in)
start_reads = is_judged start_in (judge_of start_in (λ n l. chosen_at n (bytes_eq l (codes "tree")) (Ok tt) (Err (fault.BadLine n)) tt refl))

weights_at : (n : ℕ) (text : List ℕ) → AtLine n (weights_in n text)
unfolding weights_in
weights_at n text =
    chosen_at n (nat_le (space_count text) 1023 && are_numbers (space_count text) text) (indexes_in n (space_count text) 65535 text) (Err (fault.BadLine n)) (indexes_at n (space_count text) 65535 text) refl

groups_at : (n : ℕ) (text : List ℕ) → AtLine n (groups_in n text)
unfolding groups_in
groups_at n text =
    chosen_at n (is_pair_count (space_count text) && are_numbers (space_count text) text) (indexes_in n (space_count text) 65535 text >>= pairs_from n) (Err (fault.BadLine n))
    (then_at n (indexes_in n (space_count text) 65535 text) (pairs_from n) (indexes_at n (space_count text) 65535 text)
    (λ is. chosen_at n (list_all is_room (pairs_of is)) (Ok (pairs_of is)) (Err (fault.Number n)) tt refl)) refl

node_on_at : (kinds : Kinds) (n : ℕ) (line : List ℕ) → AtLine n (node_on kinds n line)
unfolding node_on
node_on_at kinds n line =
    let said = on_line n (kind_in kinds.rooms line) in
    let last = cond (bytes_eq line (codes "O") && kinds.left_open) (Ok node.OpenLeaf) said in
    let groups = ok_map node.Groups (groups_in n (drop 2 line)) in
    chosen_at n (starts_with nat_eq line (codes "W ") && kinds.weights) (ok_map node.Weights (weights_in n (drop 2 line))) (cond (starts_with nat_eq line (codes "G ") && kinds.rooms) groups last)
    (map_at n node.Weights (weights_in n (drop 2 line)) (weights_at n (drop 2 line)))
    (chosen_at n (starts_with nat_eq line (codes "G ") && kinds.rooms) groups last (map_at n node.Groups (groups_in n (drop 2 line)) (groups_at n (drop 2 line)))
    (chosen_at n (bytes_eq line (codes "O") && kinds.left_open) (Ok node.OpenLeaf) said tt (said_at n (kind_in kinds.rooms line))))

-- the node that a line says, unless it is the last line of a text
abbrev said_node : Kinds → ℕ → List ℕ → Result Node CertFault
said_node kinds n l = cond (bytes_eq l (codes "end")) (Err (fault.Early n)) (node_on kinds n l)

node_said : (kinds : Kinds) (n : ℕ) (l : List ℕ) → AtLine n (said_node kinds n l)
node_said kinds n l = chosen_at n (bytes_eq l (codes "end")) (Err (fault.Early n)) (node_on kinds n l) refl (node_on_at kinds n l)

abbrev node_due : Kinds → ℕ → ℕ → List ℕ → Result Node CertFault
node_due kinds levels n l = said_node kinds n l >>= (λ h. cond (levels == 0) (Err (fault.TooDeep n)) (Ok h))

node_judged : (kinds : Kinds) (levels n : ℕ) (l : List ℕ) → AtLine n (node_due kinds levels n l)
node_judged kinds levels n l = then_at n (said_node kinds n l) _ (node_said kinds n l) (λ h. chosen_at n (levels == 0) (Err (fault.TooDeep n)) (Ok h) refl tt)

abbrev node_unless : Bool → ℕ → At → Node → Result (Node × At) CertFault
node_unless deep n q h = cond deep (Err (fault.TooDeep n)) (Ok (h, q))

node_line_same : (n : ℕ) (q : At) (deep : Bool) (o : Result Node CertFault) → (o >>= node_unless deep n q) ≡ ((o >>= (λ h. cond deep (Err (fault.TooDeep n)) (Ok h))) >>= with_rest q)
node_line_same n q true (Ok h) = refl
node_line_same n q false (Ok h) = refl
node_line_same n q deep (Err e) = refl

node_same_by : (kinds : Kinds) (levels : ℕ) (p : At) (u : Result (List ℕ × At) CertFault)
    → (u >>= (λ l. said_node kinds p.line l.0 >>= node_unless (levels == 0) p.line l.1)) ≡ (u >>= (λ l. node_due kinds levels p.line l.0 >>= with_rest l.1))
node_same_by kinds levels p (Ok l) = node_line_same p.line l.1 (levels == 0) (said_node kinds p.line l.0)
node_same_by kinds levels p (Err e) = refl

node_same : (kinds : Kinds) (levels : ℕ) (p : At) → node_at kinds levels p ≡ judged (node_due kinds levels) p
unfolding node_at
node_same kinds levels p = node_same_by kinds levels p (line_at p)

node_reads : (kinds : Kinds) (levels : ℕ) → IsReader (node_at kinds levels)
node_reads kinds levels =
    subst (IsReader {X = Node}) (sym (fun_ext (node_same kinds levels))) (is_judged (node_due kinds levels) (judge_of (node_due kinds levels) (node_judged kinds levels)))

below_reads : (one : At → Result (Shape × At) CertFault) → IsReader one → (h : Node) → IsReader (below one h)
below_reads one r (node.Split n) = is_then (many_from one n) _ (is_many one r n) (λ ts. is_done (split (shapes ts)))
below_reads one r (node.TickLeaf t) = is_done (leaf (tick t))
below_reads one r (node.FullLeaf t s) = is_done (leaf (full t s))
below_reads one r node.Average = is_done (leaf average)
below_reads one r (node.Weights w) = is_done (leaf (weighted w))
below_reads one r node.OpenLeaf = is_done open_leaf
below_reads one r node.Merge = is_done (leaf merging)
below_reads one r (node.Count q c) = is_done (leaf (counted q c))
below_reads one r (node.Groups pairs) = is_done (leaf (grouped pairs))

-- a node below the last level is a fault
abbrev deep_due : Kinds → ℕ → List ℕ → Result Shape CertFault
deep_due kinds n l = said_node kinds n l >>= (λ h. Err (fault.TooDeep n))

deep_judged : (kinds : Kinds) (n : ℕ) (l : List ℕ) → AtLine n (deep_due kinds n l)
deep_judged kinds n l = then_at n (said_node kinds n l) _ (node_said kinds n l) (λ h. refl)

abbrev too_deep : {X : Type 0} → ℕ → X → Result (Shape × At) CertFault
too_deep n x = Err (fault.TooDeep n)

abbrev no_shape : ℕ → Node → Result Shape CertFault
no_shape n x = Err (fault.TooDeep n)

deep_line_same : (n : ℕ) (q : At) (o : Result Node CertFault) → ((o >>= node_unless true n q) >>= too_deep n) ≡ ((o >>= no_shape n) >>= with_rest q)
deep_line_same n q (Ok h) = refl
deep_line_same n q (Err e) = refl

deep_same_by : (kinds : Kinds) (p : At) (u : Result (List ℕ × At) CertFault)
    → ((u >>= (λ l. said_node kinds p.line l.0 >>= node_unless true p.line l.1)) >>= too_deep p.line) ≡ (u >>= (λ l. deep_due kinds p.line l.0 >>= with_rest l.1))
deep_same_by kinds p (Ok l) = deep_line_same p.line l.1 (said_node kinds p.line l.0)
deep_same_by kinds p (Err e) = refl

deep_same : (kinds : Kinds) (p : At) → tree_at kinds 0 p ≡ judged (deep_due kinds) p
unfolding tree_at node_at
deep_same kinds p = deep_same_by kinds p (line_at p)

deep_reads : (kinds : Kinds) → IsReader (tree_at kinds 0)
deep_reads kinds = subst (IsReader {X = Shape}) (sym (fun_ext (deep_same kinds))) (is_judged (deep_due kinds) (judge_of (deep_due kinds) (deep_judged kinds)))

pub tree_reads : (kinds : Kinds) (d : ℕ) → IsReader (tree_at kinds d)
unfolding tree_at
tree_reads kinds zero = deep_reads kinds
tree_reads kinds (suc d) = is_then (node_at kinds (suc d)) (below (tree_at kinds d)) (node_reads kinds (suc d)) (below_reads (tree_at kinds d) (tree_reads kinds d))

-- ---- the lines after the first

abbrev whole_view : ℕ → ℕ → List UnitLine → List ℕ → Option Best → Option ℕ → Shape → CertView
whole_view version slots units order best level tree = record { version = version; slots = slots; units = units; order = order; best = best; level = level; tree = tree }

start_line_same : {A : Type 0} (n : ℕ) (q : At) (k : At → Result A CertFault) (test : Bool) → (cond test (Ok q) (Err (fault.BadLine n)) >>= k) ≡ ((due_line test n >>= with_rest q) >>= (λ x. k x.1))
start_line_same n q k true = refl
start_line_same n q k false = refl

start_same_by : {A : Type 0} (p : At) (k : At → Result A CertFault) (u : Result (List ℕ × At) CertFault)
    → ((u >>= (λ l. cond (bytes_eq l.0 (codes "tree")) (Ok l.1) (Err (fault.BadLine p.line)))) >>= k) ≡ ((u >>= (λ l. start_in p.line l.0 >>= with_rest l.1)) >>= (λ x. k x.1))
start_same_by p k (Err e) = refl
start_same_by p k (Ok l) = start_line_same p.line l.1 k (bytes_eq l.0 (codes "tree"))

start_same : {A : Type 0} (k : At → Result A CertFault) (p : At) → (start_at p >>= k) ≡ (judged start_in p >>= (λ x. k x.1))
unfolding start_at
start_same k p = start_same_by p k (line_at p)

start_closed : {A : Type 0} (k : At → Result A CertFault) → IsCloser k → IsCloser (λ (p : At). start_at p >>= k)
start_closed {A} k h = subst (IsCloser {A = A}) (sym (fun_ext (start_same k))) (is_closed (judged start_in) (λ x p. k p) start_reads (λ x. h))

pub parts_closed : (version : ℕ) → IsCloser (parts_at version)
unfolding parts_at
parts_closed version =
    is_closed slots_at _ slots_reads (λ slots.
    is_closed units_at _ units_read (λ units.
    is_closed (order_at (length units)) _ (order_reads (length units)) (λ order.
    is_closed (best_at (length units)) _ (best_reads (length units)) (λ best.
    is_closed (level_at version) _ (level_reads version) (λ level.
    start_closed _ (is_closed (tree_at (kinds_in version level) 49) (λ tree p. end_at p >>= (λ last. Ok (whole_view version slots units order best level tree))) (tree_reads (kinds_in version level) 49) (λ tree. is_ending (whole_view version slots units order best level tree))))))))
