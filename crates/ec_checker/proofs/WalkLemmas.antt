-- The walk over the children of a prefix.
use Rattle.std.proofs.Common.{◌≡◌, ℕ, ◌+◌, ◌<◌, ◌≤◌, ◌==◌, if◌then◌else◌, true, false, List, [], ◌∷◌, length, set, drop, get_or, slice_get, Option, Some, None, Result, Ok, Err, Bool, Vec, Global, refl, sym, ap, ◌∙◌, subst, rules}
use Rattle.std.proofs.lemmas.Bool.{eq-eqb, ne_eqb}
use Rattle.std.proofs.lemmas.List.{drop_all}
use Rattle.ec_units.specs.declared.slave.Place.{Place}
use Rattle.ec_loads.specs.Held.{Held}
use Rattle.ec_loads.specs.Line.{Rules, line_of}
use Rattle.ec_loads.specs.Search.{Prefix, children}
use Rattle.ec_bounds.proofs.HeldLemmas.{with_place}
use Rattle.ec_cert.specs.declared.tree.Tree.{Tree, Weights, OpenLeaf, Merge, Count, Groups, the_lemmas}
use Rattle.ec_cert.specs.Shapes.{shape_of, shapes_of}
use Rattle.ec_cert.proofs.TreeLemmas.{shape_count-shapes_of, shapes_of-drop, shape_of-Merge, shape_of-Count, shape_of-Groups}
use Rattle.ec_loads.specs.declared.pair.Pair.{Pair}
use Rattle.ec_loads.specs.Shape.{Shape, split, leaf, weighted, merging, counted, grouped, more, shape_count}
use Rattle.ec_checker.specs.declared.fault.CheckFault.{CheckFault}
use Rattle.ec_checker.specs.declared.fault.CheckFault.TheVariants as fault
use Rattle.ec_checker.specs.Judged.{IsReady, next, then_judged, tree_judged, trees_judged, leaf_judged, weights_hold, level_holds, leaf_holds}
use Rattle.ec_checker.proofs.LevelLemmas.{shape_of-OpenLeaf}

-- what is found in these trees, for these children
abbrev pub judged_from : Rules → Held → Option ℕ → Option ℕ → List Tree → ℕ → List ℕ → List Place → ℕ → Result ℕ CheckFault
judged_from rules held v level ts u order places k = trees_judged (line_of rules held) v level (shapes_of ts) held.places u order places k

abbrev pub tree_at : Rules → Held → Option ℕ → Option ℕ → Shape → List ℕ → ℕ → Result ℕ CheckFault
tree_at rules held v level t order k = tree_judged (line_of rules held) v level t held.places order k

abbrev pub kids : Rules → Held → ℕ → List Place
kids rules held u = children (line_of rules held) held.places u

-- one more child
pub child_step : (rules : Rules) (held placed : Held) (v level : Option ℕ) (ts : List Tree) (u : ℕ) (order : List ℕ) (ps rest : List Place) (p : Place) (i k : ℕ) (t : Tree) (r : Result ℕ CheckFault) → i < length ts → t ≡ get_or ts i t → ps ≡ p ∷ rest → placed ≡ with_place held u (Some p) → r ≡ tree_at rules placed v level (shape_of t) order k
    → judged_from rules held v level (drop i ts) u order ps k ≡ then_judged r (λ j. judged_from rules held v level (drop (i + 1) ts) u order rest j)
child_step rules held placed v level ts u order ps rest p i k t r h is first made judged =
    let later : ℕ → Result ℕ CheckFault = λ j. judged_from rules held v level (drop (i + 1) ts) u order rest j in
    let one : tree_judged (line_of rules held) v level (shape_of (get_or ts i t)) (set held.places u (Some p)) order k ≡ r =
    ap (λ x. tree_judged (line_of rules held) v level (shape_of x) (set held.places u (Some p)) order k) (sym is)
    ∙ ap (λ (w : Held). tree_at rules w v level (shape_of t) order k) (sym made)
    ∙ sym judged in
    ap (λ s. trees_judged (line_of rules held) v level s held.places u order ps k) (shapes_of-drop ts i t h)
    ∙ ap (λ w. trees_judged (line_of rules held) v level (more (shape_of (get_or ts i t)) (shapes_of (drop (i + 1) ts))) held.places u order w k) first
    ∙ ap (λ w. then_judged w later) one

-- no tree is left
pub no_more_trees : (rules : Rules) (held : Held) (v level : Option ℕ) (ts : List Tree) (u : ℕ) (order : List ℕ) (ps : List Place) (i k : ℕ) → length ts ≤ i → judged_from rules held v level (drop i ts) u order ps k ≡ Ok k
no_more_trees rules held v level ts u order ps i k h = ap (λ w. judged_from rules held v level w u order ps k) (drop_all i ts h)

-- no child is left
pub no_more_children : (rules : Rules) (held : Held) (v level : Option ℕ) (ts : List Tree) (u : ℕ) (order : List ℕ) (ps : List Place) (k : ℕ) → ps ≡ [] → judged_from rules held v level ts u order ps k ≡ Ok k
no_more_children rules held v level [] u order ps k e = refl
no_more_children rules held v level (t ∷ ts) u order ps k e = ap (λ w. judged_from rules held v level (t ∷ ts) u order w k) e

-- a split whose trees are as many as the children
pub split_is : (rules : Rules) (held : Held) (v level : Option ℕ) (tree : Tree) (trees : Vec Tree Global) (order later : List ℕ) (u k : ℕ) → shape_of tree ≡ split (shapes_of trees.items) → order ≡ u ∷ later → length trees.items ≡ length (kids rules held u)
    → tree_at rules held v level (shape_of tree) order k ≡ judged_from rules held v level trees.items u later (kids rules held u) (next k)
split_is rules held v level tree trees order later u k is from count =
    let same : (shape_count (shapes_of trees.items) == length (kids rules held u)) ≡ true = eq-eqb (shape_count (shapes_of trees.items)) (length (kids rules held u)) (shape_count-shapes_of trees.items ∙ count) in
    (λ j. tree_at rules held v level (is j) (from j) k)
    ∙ ap (λ b. if b then judged_from rules held v level trees.items u later (kids rules held u) (next k) else Err (fault.Children k (length (kids rules held u)) (shape_count (shapes_of trees.items)))) same

-- a split with another count of trees
pub split_wrong : (rules : Rules) (held : Held) (v level : Option ℕ) (tree : Tree) (trees : Vec Tree Global) (order later : List ℕ) (u k : ℕ) → shape_of tree ≡ split (shapes_of trees.items) → order ≡ u ∷ later → (length trees.items ≡ length (kids rules held u) → ⊥)
    → tree_at rules held v level (shape_of tree) order k ≡ Err (fault.Children k (length (kids rules held u)) (length trees.items))
split_wrong rules held v level tree trees order later u k is from other =
    let count = shape_count-shapes_of trees.items in
    let differs : (shape_count (shapes_of trees.items) == length (kids rules held u)) ≡ false = ne_eqb (shape_count (shapes_of trees.items)) (length (kids rules held u)) (λ e. other (sym count ∙ e)) in
    (λ j. tree_at rules held v level (is j) (from j) k)
    ∙ ap (λ b. if b then judged_from rules held v level trees.items u later (kids rules held u) (next k) else Err (fault.Children k (length (kids rules held u)) (shape_count (shapes_of trees.items)))) differs
    ∙ ap (λ c. Err (fault.Children k (length (kids rules held u)) c)) count

-- the next unit of a ready order
pub ready_at : (ps : Prefix) (order later : List ℕ) (n u : ℕ) → IsReady ps order → order ≡ n ∷ later → u ≡ n → (slice_get ps u ≡ Some None) × ((p : Place) → IsReady (set ps u (Some p)) later)
ready_at ps order later n u ready from is =
    let r = subst (IsReady ps) from ready in
    subst (λ w. (slice_get ps w ≡ Some None) × ((p : Place) → IsReady (set ps w (Some p)) later)) (sym is) r

shape_of-Weights : (w : List ℕ) → shape_of (Weights w) ≡ leaf (weighted w)
shape_of-Weights w = search (rules, the_lemmas)

-- a leaf by weights, and an open one
pub weights_judged : (rules : Rules) (held : Held) (v level : Option ℕ) (t : Tree) (order : List ℕ) (k : ℕ) (w given : List ℕ) (b : Bool) → t ≡ Weights w → given ≡ w → b ≡ weights_hold held.loads held.slots v held.places given
    → leaf_judged b k ≡ tree_at rules held v level (shape_of t) order k
weights_judged rules held v level t order k w given b is same told =
    ap (λ x. leaf_judged x k) told
    ∙ sym (ap (λ s. tree_at rules held v level s order k) (ap shape_of is ∙ shape_of-Weights w ∙ ap (λ x. leaf (weighted x)) (sym same)))

pub open_judged : (rules : Rules) (held : Held) (v level : Option ℕ) (t : Tree) (order : List ℕ) (k : ℕ) (b : Bool) → t ≡ OpenLeaf → b ≡ level_holds (line_of rules held) level held.places
    → leaf_judged b k ≡ tree_at rules held v level (shape_of t) order k
open_judged rules held v level t order k b is told =
    ap (λ x. leaf_judged x k) told ∙ sym (ap (λ s. tree_at rules held v level s order k) (ap shape_of is ∙ shape_of-OpenLeaf))

-- the leaves of the strong rules
pub merge_judged : (rules : Rules) (held : Held) (v level : Option ℕ) (t : Tree) (order : List ℕ) (k : ℕ) (b : Bool) → t ≡ Merge → b ≡ leaf_holds (line_of rules held) v held.places merging
    → leaf_judged b k ≡ tree_at rules held v level (shape_of t) order k
merge_judged rules held v level t order k b is told =
    ap (λ x. leaf_judged x k) told ∙ sym (ap (λ s. tree_at rules held v level s order k) (ap shape_of is ∙ shape_of-Merge))

pub count_judged : (rules : Rules) (held : Held) (v level : Option ℕ) (t : Tree) (order : List ℕ) (k p c : ℕ) (b : Bool) → t ≡ Count p c → b ≡ leaf_holds (line_of rules held) v held.places (counted p c)
    → leaf_judged b k ≡ tree_at rules held v level (shape_of t) order k
count_judged rules held v level t order k p c b is told =
    ap (λ x. leaf_judged x k) told ∙ sym (ap (λ s. tree_at rules held v level s order k) (ap shape_of is ∙ shape_of-Count p c))

pub groups_judged : (rules : Rules) (held : Held) (v level : Option ℕ) (t : Tree) (order : List ℕ) (k : ℕ) (pairs given : List Pair) (b : Bool) → t ≡ Groups pairs → given ≡ pairs → b ≡ leaf_holds (line_of rules held) v held.places (grouped given)
    → leaf_judged b k ≡ tree_at rules held v level (shape_of t) order k
groups_judged rules held v level t order k pairs given b is same told =
    ap (λ x. leaf_judged x k) told
    ∙ sym (ap (λ s. tree_at rules held v level s order k) (ap shape_of is ∙ shape_of-Groups pairs ∙ ap (λ x. leaf (grouped x)) (sym same)))
