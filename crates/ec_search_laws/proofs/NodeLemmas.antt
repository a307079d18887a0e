-- What is judged in a tree is judged node by node, so the first wrong one is found.
use Rattle.std.proofs.Common.{◌≡◌, ◌∙◌, ℕ, ◌+◌, Bool, true, false, List, [], ◌∷◌, ◌++◌, length, set, Option, Some, None, Result, Ok, Err, refl, sym, ap, subst, arith}
use Rattle.std.specs.Prelude.{◌==◌, if◌then◌else◌}
use Rattle.ec_units.specs.declared.slave.Place.{Place}
use Rattle.ec_loads.specs.Line.{Line}
use Rattle.ec_loads.specs.Shape.{Shape, Shapes, split, leaf, open_leaf, no_shapes, more, shape_count}
use Rattle.ec_loads.specs.Search.{Prefix, children}
use Rattle.ec_checker.specs.Judged.{leaf_holds, level_holds, next, then_judged, tree_judged, trees_judged}
use Rattle.ec_checker.specs.declared.fault.CheckFault.{CheckFault}
use Rattle.ec_checker.specs.declared.fault.CheckFault.TheVariants as fault
use Rattle.ec_search_laws.specs.Nodes.{AreRight, FirstWrongIsFound, HasFirstWrong, Node, fault_at, nodes_below, nodes_of, number_of}

-- ---- node by node

abbrev after : Option CheckFault → Result ℕ CheckFault → Result ℕ CheckFault
after None rest = rest
after (Some f) rest = Err f

abbrev judged : Line → Option ℕ → Option ℕ → List Node → ℕ → Result ℕ CheckFault
judged line v level [] k = Ok k
judged line v level (n ∷ nodes) k = after (fault_at line v level n k) (judged line v level nodes (next k))

after_then : (o : Option CheckFault) (r : Result ℕ CheckFault) (g : ℕ → Result ℕ CheckFault) → after o (then_judged r g) ≡ then_judged (after o r) g
after_then None r g = refl
after_then (Some f) r g = refl

judged_both : (line : Line) (v level : Option ℕ) (xs ys : List Node) (k : ℕ) → judged line v level (xs ++ ys) k ≡ then_judged (judged line v level xs k) (λ j. judged line v level ys j)
judged_both line v level [] ys k = refl
judged_both line v level (n ∷ xs) ys k =
    ap (λ r. after (fault_at line v level n k) r) (judged_both line v level xs ys (next k)) ∙ after_then (fault_at line v level n k) (judged line v level xs (next k)) (λ j. judged line v level ys j)

then_each : (r : Result ℕ CheckFault) (g h : ℕ → Result ℕ CheckFault) → ((j : ℕ) → g j ≡ h j) → then_judged r g ≡ then_judged r h
then_each (Ok k) g h same = same k
then_each (Err e) g h same = refl

by_test : (b : Bool) (x y : Result ℕ CheckFault) (f : CheckFault) → x ≡ y → (if b then x else Err f) ≡ after (if b then None else Some f) y
by_test true x y f same = same
by_test false x y f same = refl

mutual
  tree_is : (line : Line) (v level : Option ℕ) (t : Shape) (ps : Prefix) (order : List ℕ) (k : ℕ) → tree_judged line v level t ps order k ≡ judged line v level (nodes_of line t ps order) k
  tree_is line v level (split ts) ps [] k = refl
  tree_is line v level (split ts) ps (u ∷ order) k =
      by_test (shape_count ts == length (children line ps u)) _ _ (fault.Children k (length (children line ps u)) (shape_count ts)) (trees_are line v level ts ps u order (children line ps u) (next k))
  tree_is line v level (leaf l) ps order k = by_test (leaf_holds line v ps l) _ _ (fault.Leaf k) refl
  tree_is line v level open_leaf ps order k = by_test (level_holds line level ps) _ _ (fault.Leaf k) refl

  trees_are : (line : Line) (v level : Option ℕ) (ts : Shapes) (ps : Prefix) (u : ℕ) (order : List ℕ) (places : List Place) (k : ℕ) → trees_judged line v level ts ps u order places k ≡ judged line v level (nodes_below line ts ps u order places) k
  trees_are line v level no_shapes ps u order places k = refl
  trees_are line v level (more t ts) ps u order [] k = refl
  trees_are line v level (more t ts) ps u order (p ∷ rest) k =
      ap (λ r. then_judged r (λ j. trees_judged line v level ts ps u order rest j)) (tree_is line v level t (set ps u (Some p)) order k)
      ∙ then_each (judged line v level (nodes_of line t (set ps u (Some p)) order) k) _ _ (λ j. trees_are line v level ts ps u order rest j)
      ∙ sym (judged_both line v level (nodes_of line t (set ps u (Some p)) order) (nodes_below line ts ps u order rest) k)

-- ---- the first wrong node

next_number : (i : ℕ) → next (number_of i) ≡ number_of (i + 1)
next_number i = omega arith

-- of the first of some nodes, where the same is known of the later ones
first_or_later : (line : Line) (v level : Option ℕ) (n : Node) (nodes : List Node) (i : ℕ) (f : CheckFault) (o : Option CheckFault) → (judged line v level nodes (number_of (i + 1)) ≡ Err f → HasFirstWrong line v level (i + 1) nodes f)
    → fault_at line v level n (number_of i) ≡ o → after o (judged line v level nodes (next (number_of i))) ≡ Err f → HasFirstWrong line v level i (n ∷ nodes) f
first_or_later line v level n nodes i f (Some g) rest is e =
    let same : g ≡ f = cc in
    let none : i ≡ length {A = Node} [] + i = omega arith in
    record { before = []; node = n; behind = nodes; parts = refl; right = tt; wrong = subst (λ k. fault_at line v level n (number_of k) ≡ Some f) none (is ∙ ap (λ x. Some x) same) }
first_or_later line v level n nodes i f None rest is e =
    let later = rest (subst (λ k. judged line v level nodes k ≡ Err f) (next_number i) e) in
    let count : length later.before + (i + 1) ≡ length (n ∷ later.before) + i = omega arith in
    record {
      before = n ∷ later.before;
      node = later.node;
      behind = later.behind;
      parts = ap (λ l. n ∷ l) later.parts;
      right = (is, later.right);
      wrong = subst (λ k. fault_at line v level later.node (number_of k) ≡ Some f) count later.wrong;
    }

first_wrong : (line : Line) (v level : Option ℕ) (nodes : List Node) (i : ℕ) (f : CheckFault) → judged line v level nodes (number_of i) ≡ Err f → HasFirstWrong line v level i nodes f
first_wrong line v level [] i f e = absurd cc
first_wrong line v level (n ∷ nodes) i f e = first_or_later line v level n nodes i f (fault_at line v level n (number_of i)) (λ later. first_wrong line v level nodes (i + 1) f later) refl e

right_and_later : (line : Line) (v level : Option ℕ) (n : Node) (nodes : List Node) (i k : ℕ) (o : Option CheckFault) → (judged line v level nodes (number_of (i + 1)) ≡ Ok k → AreRight line v level (i + 1) nodes)
    → fault_at line v level n (number_of i) ≡ o → after o (judged line v level nodes (next (number_of i))) ≡ Ok k → AreRight line v level i (n ∷ nodes)
right_and_later line v level n nodes i k (Some g) rest is e = absurd cc
right_and_later line v level n nodes i k None rest is e = (is, rest (subst (λ j. judged line v level nodes j ≡ Ok k) (next_number i) e))

none_wrong : (line : Line) (v level : Option ℕ) (nodes : List Node) (i k : ℕ) → judged line v level nodes (number_of i) ≡ Ok k → AreRight line v level i nodes
none_wrong line v level [] i k e = tt
none_wrong line v level (n ∷ nodes) i k e = right_and_later line v level n nodes i k (fault_at line v level n (number_of i)) (λ later. none_wrong line v level nodes (i + 1) k later) refl e

pub found : FirstWrongIsFound
found line v level tree ps order = (
  λ f e. first_wrong line v level (nodes_of line tree ps order) 0 f (sym (tree_is line v level tree ps order 0) ∙ e),
  λ k e. none_wrong line v level (nodes_of line tree ps order) 0 k (sym (tree_is line v level tree ps order 0) ∙ e),
)
