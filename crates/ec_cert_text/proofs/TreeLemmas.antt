-- What a tree gives, by what the line of its first node says.
use Rattle.std.proofs.Common.{◌≡◌, ℕ, zero, suc, ◌-◌, ◌<◌, ◌==◌, false, List, codes, Ok, refl, ap, sym, ◌∙◌, arith, rules}
use Rattle.std.specs.Str.{bytes_eq}
use Rattle.ec_loads.specs.declared.pair.Pair.{Pair}
use Rattle.ec_loads.specs.Shape.{tick, full, average, weighted, merging, counted, grouped, Shape, split, leaf, open_leaf}
use Rattle.ec_cert.specs.Shapes.{shape_of, shapes}
use Rattle.ec_cert.specs.declared.kinds.Kinds.{Kinds}
use Rattle.ec_cert.specs.declared.tree.Tree.{TickLeaf, FullLeaf, Average, Weights, OpenLeaf, Merge, Count, Groups, the_lemmas}
use Rattle.ec_cert_text.specs.declared.fault.CertFault.{CertFault}
use Rattle.ec_cert_text.specs.declared.nodes.Node.{Node}
use Rattle.ec_cert_text.specs.declared.nodes.Node.TheVariants as node
use Rattle.ec_cert_text.specs.Reading.{◌>>=◌, At, Fails, many_from, line_at, node_on, node_at, below, tree_at}
use Rattle.ec_cert_text.proofs.ManyLemmas.{fails_as}

-- ---- the line of a node

pub line_fails : (kinds : Kinds) (d : ℕ) (p : At) (e : CertFault) → Fails e (line_at p) → Fails e (node_at kinds d p)
unfolding node_at
line_fails kinds d p e h = fails_as e (line_at p) (node_at kinds d p) (λ f is. rw is refl) h

pub node_fails : (kinds : Kinds) (d : ℕ) (p after : At) (line : List ℕ) (e : CertFault) → line_at p ≡ Ok (line, after) → bytes_eq line (codes "end") ≡ false → Fails e (node_on kinds p.line line) → Fails e (node_at kinds d p)
unfolding node_at
node_fails kinds d p after line e found goes h = fails_as e (node_on kinds p.line line) (node_at kinds d p) (λ f is. rw (found, goes, is) refl) h

pub node_reads : (kinds : Kinds) (d : ℕ) (p after : At) (line : List ℕ) (n : Node) → line_at p ≡ Ok (line, after) → bytes_eq line (codes "end") ≡ false → node_on kinds p.line line ≡ Ok n → (d == 0) ≡ false → node_at kinds d p ≡ Ok (n, after)
unfolding node_at
node_reads kinds d p after line n found goes is deep = rw (found, goes, is, deep) refl

-- ---- a tree

pub tree_reads : (kinds : Kinds) (d : ℕ) (p after : At) (n h : Node) → 0 < d → node_at kinds d p ≡ Ok (n, after) → n ≡ h → tree_at kinds d p ≡ below (tree_at kinds (d - 1)) h after
unfolding tree_at
tree_reads kinds zero p after n h lt e is = absurd (omega arith)
tree_reads kinds (suc d) p after n h lt e is =
    let low : suc d - 1 ≡ d = omega arith in
    rw (e, is, low) refl

-- a fault below a split is the tree's
pub split_fails : (kinds : Kinds) (d count : ℕ) (p after : At) (n : Node) (e : CertFault) → 0 < d → node_at kinds d p ≡ Ok (n, after) → n ≡ node.Split count → Fails e (many_from (tree_at kinds (d - 1)) count after) → Fails e (tree_at kinds d p)
split_fails kinds d count p after n e lt found is fails =
    let here = tree_reads kinds d p after n (node.Split count) lt found is in
    fails_as e (many_from (tree_at kinds (d - 1)) count after) (tree_at kinds d p) (λ f none. here ∙ ap (λ r. r >>= (λ ts. Ok (split (shapes ts.0), ts.1))) none) fails

pub split_reads : (kinds : Kinds) (d count : ℕ) (p after rest : At) (n : Node) (ts : List Shape) (s : Shape) → 0 < d → node_at kinds d p ≡ Ok (n, after) → n ≡ node.Split count → many_from (tree_at kinds (d - 1)) count after ≡ Ok (ts, rest) → s ≡ split (shapes ts) → tree_at kinds d p ≡ Ok (s, rest)
split_reads kinds d count p after rest n ts s lt found is reads whole =
    let here = tree_reads kinds d p after n (node.Split count) lt found is in
    here ∙ ap (λ r. r >>= (λ ts. Ok (split (shapes ts.0), ts.1))) reads ∙ ap (λ t. Ok (t, rest)) (sym whole)

pub tick_reads : (kinds : Kinds) (d t : ℕ) (p after : At) (n : Node) → 0 < d → node_at kinds d p ≡ Ok (n, after) → n ≡ node.TickLeaf t → tree_at kinds d p ≡ Ok (shape_of (TickLeaf t), after)
tick_reads kinds d t p after n lt found is =
    let one : shape_of (TickLeaf t) ≡ leaf (tick t) = search (rules, the_lemmas) in
    tree_reads kinds d p after n (node.TickLeaf t) lt found is ∙ ap (λ s. Ok (s, after)) (sym one)

pub full_reads : (kinds : Kinds) (d t s : ℕ) (p after : At) (n : Node) → 0 < d → node_at kinds d p ≡ Ok (n, after) → n ≡ node.FullLeaf t s → tree_at kinds d p ≡ Ok (shape_of (FullLeaf t s), after)
full_reads kinds d t s p after n lt found is =
    let one : shape_of (FullLeaf t s) ≡ leaf (full t s) = search (rules, the_lemmas) in
    tree_reads kinds d p after n (node.FullLeaf t s) lt found is ∙ ap (λ s. Ok (s, after)) (sym one)

pub average_reads : (kinds : Kinds) (d : ℕ) (p after : At) (n : Node) → 0 < d → node_at kinds d p ≡ Ok (n, after) → n ≡ node.Average → tree_at kinds d p ≡ Ok (shape_of Average, after)
average_reads kinds d p after n lt found is =
    let one : shape_of Average ≡ leaf average = search (rules, the_lemmas) in
    tree_reads kinds d p after n node.Average lt found is ∙ ap (λ s. Ok (s, after)) (sym one)

pub weights_reads : (kinds : Kinds) (d : ℕ) (w : List ℕ) (p after : At) (n : Node) → 0 < d → node_at kinds d p ≡ Ok (n, after) → n ≡ node.Weights w → tree_at kinds d p ≡ Ok (shape_of (Weights w), after)
weights_reads kinds d w p after n lt found is =
    let one : shape_of (Weights w) ≡ leaf (weighted w) = search (rules, the_lemmas) in
    tree_reads kinds d p after n (node.Weights w) lt found is ∙ ap (λ s. Ok (s, after)) (sym one)

pub open_reads : (kinds : Kinds) (d : ℕ) (p after : At) (n : Node) → 0 < d → node_at kinds d p ≡ Ok (n, after) → n ≡ node.OpenLeaf → tree_at kinds d p ≡ Ok (shape_of OpenLeaf, after)
open_reads kinds d p after n lt found is =
    let one : shape_of OpenLeaf ≡ open_leaf = search (rules, the_lemmas) in
    tree_reads kinds d p after n node.OpenLeaf lt found is ∙ ap (λ s. Ok (s, after)) (sym one)

pub merge_reads : (kinds : Kinds) (d : ℕ) (p after : At) (n : Node) → 0 < d → node_at kinds d p ≡ Ok (n, after) → n ≡ node.Merge → tree_at kinds d p ≡ Ok (shape_of Merge, after)
merge_reads kinds d p after n lt found is =
    let one : shape_of Merge ≡ leaf merging = search (rules, the_lemmas) in
    tree_reads kinds d p after n node.Merge lt found is ∙ ap (λ s. Ok (s, after)) (sym one)

pub count_reads : (kinds : Kinds) (d q c : ℕ) (p after : At) (n : Node) → 0 < d → node_at kinds d p ≡ Ok (n, after) → n ≡ node.Count q c → tree_at kinds d p ≡ Ok (shape_of (Count q c), after)
count_reads kinds d q c p after n lt found is =
    let one : shape_of (Count q c) ≡ leaf (counted q c) = search (rules, the_lemmas) in
    tree_reads kinds d p after n (node.Count q c) lt found is ∙ ap (λ s. Ok (s, after)) (sym one)

pub groups_reads : (kinds : Kinds) (d : ℕ) (pairs : List Pair) (p after : At) (n : Node) → 0 < d → node_at kinds d p ≡ Ok (n, after) → n ≡ node.Groups pairs → tree_at kinds d p ≡ Ok (shape_of (Groups pairs), after)
groups_reads kinds d pairs p after n lt found is =
    let one : shape_of (Groups pairs) ≡ leaf (grouped pairs) = search (rules, the_lemmas) in
    tree_reads kinds d p after n (node.Groups pairs) lt found is ∙ ap (λ s. Ok (s, after)) (sym one)
