-- Laws of trees with numbers at their open leaves.
-- What an open leaf has to be is the argument `is` of `NumberedTree`. `numbered-fill` carries it through every map,
-- `numbered-report` through a report, `numbered-lower` to a smaller value, `numbered-plain` to `IsPartialTree`. For
-- trees without numbers: `tree-lower`, `tree-weaker`, `tree-closed`, `length-leaves`, `reached-leaves`. `All P []`
-- isn't `tt`: `All P xs` is a function of the index (`All-none`, `All-one`).
use Rattle.std.proofs.Common.{◌≡◌, ℕ, zero, suc, ◌+◌, ◌==◌, if◌then◌else◌, Bool, true, false, eqb, All, List, [], ◌∷◌, ◌++◌, length, set, drop, Option, Some, slice_get, refl, sym, ap, ◌∙◌, subst, arith, length-append}
use Rattle.std.proofs.lemmas.List.Elements.{All-append}
use Rattle.ec_units.specs.declared.slave.Place.{Place}
use Rattle.ec_loads.specs.Line.{Line}
use Rattle.ec_loads.specs.Shape.{Shape, Shapes, split, leaf, open_leaf, no_shapes, more}
use Rattle.ec_loads.specs.Search.{Prefix, children, TreeWith, TreesWith, IsTree, IsPartialTree, HasShortTicks, HaveShortTicks, IsAtMost, open_count, open_counts, node_count, node_counts}
use Rattle.ec_bounds.proofs.LeafLemmas.{leaf-falls}
use Rattle.ec_symmetry.specs.Reached.{In, here, there}
use Rattle.ec_symmetry.specs.Orders.{IsReachedPrefix, prefix_of}
use Rattle.ec_book.specs.Numbered.{Numbered, Numbereds, branch, closed, gap, last, next, numbered, all_numbered, fill, fills, plug, plain, draws, size, sizes, gaps, all_gaps, NumberedTree, NumberedTrees}
use Rattle.ec_book.specs.Open.{leaf_places, all_leaf_places, LeadsTo, StandsAt}
use Rattle.ec_book.proofs.OrderLemmas.{leads-more, reached-more}

-- a tree at a value is a tree at each smaller one
module _ (is : Prefix → List ℕ → Type 0) (line : Line) (v w : Option ℕ) (low : IsAtMost w v) where
  mutual
    pub tree-lower : (s : Shape) (ps : Prefix) (order : List ℕ) → TreeWith is line v s ps order → TreeWith is line w s ps order
    tree-lower (split ts) ps [] h = h
    tree-lower (split ts) ps (u ∷ order) h = trees-lower ts ps u order (children line ps u) h
    tree-lower (leaf l) ps order h = leaf-falls line v w ps l low h
    tree-lower open_leaf ps order h = h

    trees-lower : (ts : Shapes) (ps : Prefix) (u : ℕ) (order : List ℕ) (kids : List Place) → TreesWith is line v ts ps u order kids → TreesWith is line w ts ps u order kids
    trees-lower no_shapes ps u order [] h = h
    trees-lower no_shapes ps u order (p ∷ kids) h = h
    trees-lower (more t ts) ps u order [] h = h
    trees-lower (more t ts) ps u order (p ∷ kids) h = (tree-lower t (set ps u (Some p)) order h.0, trees-lower ts ps u order kids h.1)

module _ (is : ℕ → Prefix → List ℕ → Type 0) (line : Line) (v w : Option ℕ) (low : IsAtMost w v) where
  mutual
    pub numbered-lower : (t : Numbered) (ps : Prefix) (order : List ℕ) → NumberedTree is line v t ps order → NumberedTree is line w t ps order
    numbered-lower (branch ts) ps [] h = h
    numbered-lower (branch ts) ps (u ∷ order) h = all-lower ts ps u order (children line ps u) h
    numbered-lower (closed s) ps order h = (tree-lower (λ _ _. ⊥) line v w low s ps order h.0, h.1)
    numbered-lower (gap m) ps order h = h

    all-lower : (ts : Numbereds) (ps : Prefix) (u : ℕ) (order : List ℕ) (kids : List Place) → NumberedTrees is line v ts ps u order kids → NumberedTrees is line w ts ps u order kids
    all-lower last ps u order [] h = h
    all-lower last ps u order (p ∷ kids) h = h
    all-lower (next t ts) ps u order [] h = h
    all-lower (next t ts) ps u order (p ∷ kids) h = (numbered-lower t (set ps u (Some p)) order h.0, all-lower ts ps u order kids h.1)

-- less is asked of the open leaves
module _ (is is2 : Prefix → List ℕ → Type 0) (each : (ps : Prefix) (order : List ℕ) → is ps order → is2 ps order) (line : Line) (v : Option ℕ) where
  mutual
    pub tree-weaker : (s : Shape) (ps : Prefix) (order : List ℕ) → TreeWith is line v s ps order → TreeWith is2 line v s ps order
    tree-weaker (split ts) ps [] h = h
    tree-weaker (split ts) ps (u ∷ order) h = trees-weaker ts ps u order (children line ps u) h
    tree-weaker (leaf l) ps order h = h
    tree-weaker open_leaf ps order h = each ps order h

    trees-weaker : (ts : Shapes) (ps : Prefix) (u : ℕ) (order : List ℕ) (kids : List Place) → TreesWith is line v ts ps u order kids → TreesWith is2 line v ts ps u order kids
    trees-weaker no_shapes ps u order [] h = h
    trees-weaker no_shapes ps u order (p ∷ kids) h = h
    trees-weaker (more t ts) ps u order [] h = h
    trees-weaker (more t ts) ps u order (p ∷ kids) h = (tree-weaker t (set ps u (Some p)) order h.0, trees-weaker ts ps u order kids h.1)

-- a tree without open leaves
module _ (is is2 : Prefix → List ℕ → Type 0) (line : Line) (v : Option ℕ) where
  mutual
    pub tree-closed : (s : Shape) (ps : Prefix) (order : List ℕ) → open_count s ≡ 0 → TreeWith is line v s ps order → TreeWith is2 line v s ps order
    tree-closed (split ts) ps [] e h = h
    tree-closed (split ts) ps (u ∷ order) e h = trees-closed ts ps u order (children line ps u) e h
    tree-closed (leaf l) ps order e h = h
    tree-closed open_leaf ps order e h = absurd (omega (arith, e))

    trees-closed : (ts : Shapes) (ps : Prefix) (u : ℕ) (order : List ℕ) (kids : List Place) → open_counts ts ≡ 0 → TreesWith is line v ts ps u order kids → TreesWith is2 line v ts ps u order kids
    trees-closed no_shapes ps u order [] e h = h
    trees-closed no_shapes ps u order (p ∷ kids) e h = h
    trees-closed (more t ts) ps u order [] e h = h
    trees-closed (more t ts) ps u order (p ∷ kids) e h = (tree-closed t (set ps u (Some p)) order (omega (arith, e)) h.0, trees-closed ts ps u order kids (omega (arith, e)) h.1)

module _ (line : Line) (v : Option ℕ) where
  mutual
    pub no-open : (s : Shape) (ps : Prefix) (order : List ℕ) → IsTree line v s ps order → open_count s ≡ 0
    no-open (split ts) ps [] h = absurd h
    no-open (split ts) ps (u ∷ order) h = none-open ts ps u order (children line ps u) h
    no-open (leaf l) ps order h = refl
    no-open open_leaf ps order h = absurd h

    none-open : (ts : Shapes) (ps : Prefix) (u : ℕ) (order : List ℕ) (kids : List Place) → TreesWith (λ _ _. ⊥) line v ts ps u order kids → open_counts ts ≡ 0
    none-open no_shapes ps u order kids h = refl
    none-open (more t ts) ps u order [] h = absurd h
    none-open (more t ts) ps u order (p ∷ kids) h = let one = no-open t (set ps u (Some p)) order h.0 in let rest = none-open ts ps u order kids h.1 in omega (arith, one, rest)

-- other trees in place of the open leaves
module _ (is is2 : ℕ → Prefix → List ℕ → Type 0) (line : Line) (v : Option ℕ) (f : ℕ → Numbered) (each : (m : ℕ) (ps : Prefix) (order : List ℕ) → is m ps order → NumberedTree is2 line v (f m) ps order) where
  mutual
    pub numbered-fill : (t : Numbered) (ps : Prefix) (order : List ℕ) → NumberedTree is line v t ps order → NumberedTree is2 line v (fill f t) ps order
    numbered-fill (branch ts) ps [] h = h
    numbered-fill (branch ts) ps (u ∷ order) h = all-fill ts ps u order (children line ps u) h
    numbered-fill (closed s) ps order h = h
    numbered-fill (gap m) ps order h = each m ps order h

    all-fill : (ts : Numbereds) (ps : Prefix) (u : ℕ) (order : List ℕ) (kids : List Place) → NumberedTrees is line v ts ps u order kids → NumberedTrees is2 line v (fills f ts) ps u order kids
    all-fill last ps u order [] h = h
    all-fill last ps u order (p ∷ kids) h = h
    all-fill (next t ts) ps u order [] h = h
    all-fill (next t ts) ps u order (p ∷ kids) h = (numbered-fill t (set ps u (Some p)) order h.0, all-fill ts ps u order kids h.1)

-- without numbers it is a partial tree, with as many nodes and open leaves
module _ (is : ℕ → Prefix → List ℕ → Type 0) (line : Line) (v : Option ℕ) where
  mutual
    pub numbered-plain : (t : Numbered) (ps : Prefix) (order : List ℕ) → NumberedTree is line v t ps order → IsPartialTree line v (plain t) ps order
    numbered-plain (branch ts) ps [] h = absurd h
    numbered-plain (branch ts) ps (u ∷ order) h = all-plain ts ps u order (children line ps u) h
    numbered-plain (closed s) ps order h = (tree-weaker (λ _ _. ⊥) (λ _ _. Unit {0}) (λ _ _ no. absurd no) line v s ps order h.0, h.1)
    numbered-plain (gap m) ps order h = (tt, tt)

    all-plain : (ts : Numbereds) (ps : Prefix) (u : ℕ) (order : List ℕ) (kids : List Place) → NumberedTrees is line v ts ps u order kids → TreesWith (λ _ _. Unit {0}) line v (draws (λ _. open_leaf) ts) ps u order kids × HaveShortTicks (draws (λ _. open_leaf) ts)
    all-plain last ps u order [] h = (tt, tt)
    all-plain last ps u order (p ∷ kids) h = absurd h
    all-plain (next t ts) ps u order [] h = absurd h
    all-plain (next t ts) ps u order (p ∷ kids) h = let one = numbered-plain t (set ps u (Some p)) order h.0 in let rest = all-plain ts ps u order kids h.1 in ((one.0, rest.0), (one.1, rest.1))

  mutual
    pub gaps-plain : (t : Numbered) (ps : Prefix) (order : List ℕ) → NumberedTree is line v t ps order → open_count (plain t) ≡ gaps t
    gaps-plain (branch ts) ps [] h = absurd h
    gaps-plain (branch ts) ps (u ∷ order) h = all_gaps-plain ts ps u order (children line ps u) h
    gaps-plain (closed s) ps order h = no-open line v s ps order h.0
    gaps-plain (gap m) ps order h = refl

    all_gaps-plain : (ts : Numbereds) (ps : Prefix) (u : ℕ) (order : List ℕ) (kids : List Place) → NumberedTrees is line v ts ps u order kids → open_counts (draws (λ _. open_leaf) ts) ≡ all_gaps ts
    all_gaps-plain last ps u order kids h = refl
    all_gaps-plain (next t ts) ps u order [] h = absurd h
    all_gaps-plain (next t ts) ps u order (p ∷ kids) h = let one = gaps-plain t (set ps u (Some p)) order h.0 in let rest = all_gaps-plain ts ps u order kids h.1 in omega (arith, one, rest)

mutual
  pub size-plain : (t : Numbered) → node_count (plain t) ≡ size t
  size-plain (branch ts) = let rest = sizes-plain ts in omega (arith, rest)
  size-plain (closed s) = refl
  size-plain (gap m) = refl

  sizes-plain : (ts : Numbereds) → node_counts (draws (λ _. open_leaf) ts) ≡ sizes ts
  sizes-plain last = refl
  sizes-plain (next t ts) = let one = size-plain t in let rest = sizes-plain ts in omega (arith, one, rest)

All-none : (P : List Place → Type 0) → All P []
All-none P k d h = absurd (omega arith)

All-one : (P : List Place → Type 0) (q : List Place) → P q → All P (q ∷ [])
All-one P q holds zero d h = holds
All-one P q holds (suc k) d h = absurd (omega arith)

-- the places of the open leaves: as many as there are, and reached
abbrev Inside : List Place → List Place → Type 0
Inside xs ys = (p : Place) → In p ys → In p xs

module _ (is : Prefix → List ℕ → Type 0) (line : Line) (v : Option ℕ) where
  mutual
    pub length-leaves : (s : Shape) (ps : Prefix) (order : List ℕ) (q : List Place) → TreeWith is line v s ps order → length (leaf_places line s ps order q) ≡ open_count s
    length-leaves (split ts) ps [] q h = absurd h
    length-leaves (split ts) ps (u ∷ order) q h = length-all ts ps u order q (children line ps u) h
    length-leaves (leaf l) ps order q h = refl
    length-leaves open_leaf ps order q h = refl

    length-all : (ts : Shapes) (ps : Prefix) (u : ℕ) (order : List ℕ) (q : List Place) (kids : List Place) → TreesWith is line v ts ps u order kids → length (all_leaf_places line ts ps u order q kids) ≡ open_counts ts
    length-all no_shapes ps u order q kids h = refl
    length-all (more t ts) ps u order q [] h = absurd h
    length-all (more t ts) ps u order q (p ∷ kids) h =
        let one = length-leaves t (set ps u (Some p)) order (q ++ p ∷ []) h.0 in
        let rest = length-all ts ps u order q kids h.1 in
        let whole = length-append (leaf_places line t (set ps u (Some p)) order (q ++ p ∷ [])) (all_leaf_places line ts ps u order q kids) in
        omega (arith, one, rest, whole)

module _ (line : Line) (whole : List ℕ) where
  mutual
    pub reached-leaves : (s : Shape) (ps : Prefix) (order : List ℕ) (q : List Place) → LeadsTo line.loads whole q ps order → IsReachedPrefix line whole q → All (IsReachedPrefix line whole) (leaf_places line s ps order q)
    reached-leaves (split ts) ps [] q leads all = All-none (IsReachedPrefix line whole)
    reached-leaves (split ts) ps (u ∷ order) q leads all = reached-all ts ps u order q (children line ps u) leads all (λ p is. is)
    reached-leaves (leaf l) ps order q leads all = All-none (IsReachedPrefix line whole)
    reached-leaves open_leaf ps order q leads all = All-one (IsReachedPrefix line whole) q all

    reached-all : (ts : Shapes) (ps : Prefix) (u : ℕ) (order : List ℕ) (q : List Place) (kids : List Place) → LeadsTo line.loads whole q ps (u ∷ order) → IsReachedPrefix line whole q → Inside (children line ps u) kids → All (IsReachedPrefix line whole) (all_leaf_places line ts ps u order q kids)
    reached-all no_shapes ps u order q kids leads all inside = All-none (IsReachedPrefix line whole)
    reached-all (more t ts) ps u order q [] leads all inside = All-none (IsReachedPrefix line whole)
    reached-all (more t ts) ps u order q (p ∷ kids) leads all inside =
        All-append (IsReachedPrefix line whole) (leaf_places line t (set ps u (Some p)) order (q ++ p ∷ [])) (all_leaf_places line ts ps u order q kids)
        (reached-leaves t (set ps u (Some p)) order (q ++ p ∷ []) (leads-more line.loads whole q ps u order p leads) (reached-more line whole q ps u order p leads all (inside p here)))
        (reached-all ts ps u order q kids leads all (λ r is. inside r (there is)))

assoc : (a b c : List (List Place)) → (a ++ b) ++ c ≡ a ++ (b ++ c)
assoc [] b c = refl
assoc (x ∷ a) b c = ap (λ w. x ∷ w) (assoc a b c)

seam : (xs : List (List Place)) (x : List Place) (ys : List (List Place)) → slice_get (xs ++ (x ∷ ys)) (length xs) ≡ Some x
seam [] x ys = refl
seam (z ∷ xs) x ys = seam xs x ys

-- where the places of its open leaves stand from k on in a list, a tree whose open leaves are numbered from k on has each at its place
module _ (line : Line) (v : Option ℕ) (whole : List ℕ) (xs : List (List Place)) where
  mutual
    pub numbered-stands : (s : Shape) (ps : Prefix) (order : List ℕ) (q : List Place) (k : ℕ) (front back : List (List Place)) → k ≡ length front → xs ≡ front ++ (leaf_places line s ps order q ++ back) → LeadsTo line.loads whole q ps order
        → TreeWith (λ _ _. Unit {0}) line v s ps order → HasShortTicks s → NumberedTree (StandsAt line.loads whole xs) line v (numbered k s) ps order
    numbered-stands (split ts) ps [] q k front back e is leads h short = h
    numbered-stands (split ts) ps (u ∷ order) q k front back e is leads h short = all-stands ts ps u order q (children line ps u) k front back e is leads h short
    numbered-stands (leaf l) ps order q k front back e is leads h short = (h, short)
    numbered-stands open_leaf ps order q k front back e is leads h short = (q, rw (e, is) (seam front q back), leads)

    all-stands : (ts : Shapes) (ps : Prefix) (u : ℕ) (order : List ℕ) (q : List Place) (kids : List Place) (k : ℕ) (front back : List (List Place)) → k ≡ length front → xs ≡ front ++ (all_leaf_places line ts ps u order q kids ++ back) → LeadsTo line.loads whole q ps (u ∷ order)
        → TreesWith (λ _ _. Unit {0}) line v ts ps u order kids → HaveShortTicks ts → NumberedTrees (StandsAt line.loads whole xs) line v (all_numbered k ts) ps u order kids
    all-stands no_shapes ps u order q [] k front back e is leads h short = tt
    all-stands no_shapes ps u order q (p ∷ kids) k front back e is leads h short = h
    all-stands (more t ts) ps u order q [] k front back e is leads h short = h
    all-stands (more t ts) ps u order q (p ∷ kids) k front back e is leads h short =
        let first_places = leaf_places line t (set ps u (Some p)) order (q ++ p ∷ []) in
        let later = all_leaf_places line ts ps u order q kids in
        let count = length-leaves (λ _ _. Unit {0}) line v t (set ps u (Some p)) order (q ++ p ∷ []) h.0 in
        let long : k + open_count t ≡ length (front ++ first_places) = omega (arith, e, length-append front first_places, count) in
        let first : xs ≡ front ++ (first_places ++ (later ++ back)) = is ∙ ap (λ w. front ++ w) (assoc first_places later back) in
        let second : xs ≡ (front ++ first_places) ++ (later ++ back) = first ∙ sym (assoc front first_places (later ++ back)) in (
          numbered-stands t (set ps u (Some p)) order (q ++ p ∷ []) k front (later ++ back) e first (leads-more line.loads whole q ps u order p leads) h.0 short.0,
          all-stands ts ps u order q kids (k + open_count t) (front ++ first_places) back long second leads h.1 short.1,
        )

get-front : (xs ys : List (List Place)) (m : ℕ) (q : List Place) → slice_get xs m ≡ Some q → slice_get (xs ++ ys) m ≡ Some q
get-front [] ys m q h = absurd (cc)
get-front (x ∷ xs) ys zero q h = h
get-front (x ∷ xs) ys (suc m) q h = get-front xs ys m q h

append-nil : (xs : List (List Place)) → xs ++ [] ≡ xs
append-nil [] = refl
append-nil (x ∷ xs) = ap (λ w. x ∷ w) (append-nil xs)

same-place : (q r : List Place) → Some q ≡ Some r → q ≡ r
same-place q r h = cc

abbrev choose : Bool → Numbered → ℕ → Numbered
choose b s m = if b then s else gap m

-- a report at its piece's place
module _ (line : Line) (v : Option ℕ) (whole : List ℕ) (xs : List (List Place)) (p : ℕ) (q : List Place) (s : Shape) (ps : Prefix) (order : List ℕ)
    (at : slice_get xs p ≡ Some q) (leads : LeadsTo line.loads whole q ps order) (h : IsPartialTree line v s ps order) where
  abbrev new : List (List Place)
  new = xs ++ leaf_places line s ps order q

  sub : NumberedTree (StandsAt line.loads whole new) line v (numbered (length xs) s) ps order
  sub = numbered-stands line v whole new s ps order q (length xs) xs [] refl (ap (λ w. xs ++ w) (sym (append-nil (leaf_places line s ps order q)))) leads h.0 h.1

  plugged : (m : ℕ) (ps2 : Prefix) (order2 : List ℕ) → StandsAt line.loads whole xs m ps2 order2 → NumberedTree (StandsAt line.loads whole new) line v (choose (m == p) (numbered (length xs) s) m) ps2 order2
  plugged m ps2 order2 stands =
      (elim (eqb m p) as (λ b. eqb m p ≡ b → NumberedTree (StandsAt line.loads whole new) line v (choose b (numbered (length xs) s) m) ps2 order2) [
        | true ↦ λ e.
            let same : m ≡ p = grind arith in
            let place : q ≡ stands.0 = same-place q stands.0 (sym at ∙ ap (slice_get xs) (sym same) ∙ stands.1) in
            let prefix : ps ≡ ps2 = leads.0 ∙ ap (λ w. prefix_of line.loads whole w) place ∙ sym stands.2.0 in
            let rest : order ≡ order2 = leads.1 ∙ ap (λ w. drop (length w) whole) place ∙ sym stands.2.1 in
            subst (λ w. NumberedTree (StandsAt line.loads whole new) line v (numbered (length xs) s) w order2) prefix
            (subst (λ w. NumberedTree (StandsAt line.loads whole new) line v (numbered (length xs) s) ps w) rest sub)
        | false ↦ λ e. (stands.0, get-front xs (leaf_places line s ps order q) m stands.0 stands.1, stands.2)
      ]) refl

  pub numbered-report : (t : Numbered) (ps0 : Prefix) (order0 : List ℕ) → NumberedTree (StandsAt line.loads whole xs) line v t ps0 order0
      → NumberedTree (StandsAt line.loads whole new) line v (plug p (numbered (length xs) s) t) ps0 order0
  numbered-report t ps0 order0 w =
      numbered-fill (StandsAt line.loads whole xs) (StandsAt line.loads whole new) line v (λ m. if m == p then numbered (length xs) s else gap m) plugged t ps0 order0 w
