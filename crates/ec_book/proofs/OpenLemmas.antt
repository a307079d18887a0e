-- The walk that collects the places of open leaves.
-- `opened_first` gives the children of the path's prefix. A path that is pushed, walked and popped goes by `path_back`,
-- with `c.pop.ensures.rest`, and `vec.ok.0` for the length.
use Rattle.std.proofs.Common.{◌≡◌, ℕ, ◌+◌, ◌-◌, ◌<◌, ◌≤◌, List, [], ◌∷◌, ◌++◌, length, take, drop, set, get_or, Vec, Global, Option, Some, refl, ap, sym, ◌∙◌, arith}
use Rattle.std.proofs.lemmas.List.{drop_more, drop_all}
use Rattle.ec_units.specs.declared.slave.Place.{Place}
use Rattle.ec_units.specs.declared.unit.Load.{Load}
use Rattle.ec_loads.specs.Line.{Line}
use Rattle.ec_loads.specs.Search.{Prefix, children, open_count, open_counts}
use Rattle.ec_loads.specs.Shape.{Shape, Shapes, split, leaf, open_leaf, no_shapes, more}
use Rattle.ec_cert.specs.declared.tree.Tree.{Tree}
use Rattle.ec_cert.specs.Shapes.{shape_of, shapes_of}
use Rattle.ec_cert.proofs.TreeLemmas.{shapes_of-drop}
use Rattle.ec_symmetry.specs.Orders.{prefix_of}
use Rattle.ec_book.specs.Open.{leaf_places, all_leaf_places, open_places, AreOpened, IsAddedTo}
use Rattle.ec_book.proofs.OrderLemmas.{leads-more}

-- what these trees leave open, for these children of the unit
abbrev pub opened_from : Line → List ℕ → List Tree → ℕ → List Place → List Place → List (List Place)
opened_from line order ts u q kids = all_leaf_places line (shapes_of ts) (prefix_of line.loads order q) u (drop (length q + 1) order) q kids

-- what all trees of a split leave open
abbrev pub opened_all : Line → List ℕ → List Tree → ℕ → List Place → List (List Place)
opened_all line order ts u q = opened_from line order ts u q (children line (prefix_of line.loads order q) u)

-- before the walk over them all trees of the split are left
pub opened_first : (line : Line) (order : List ℕ) (ts : List Tree) (u w : ℕ) (q path kids : List Place) (out : List (List Place)) → path ≡ q → w ≡ u
    → kids ≡ children line (prefix_of line.loads order path) w → out ++ opened_from line order ts u q kids ≡ out ++ opened_all line order ts u q
opened_first line order ts u w q path kids out same next e =
    ap (λ k. out ++ opened_from line order ts u q k) (e ∙ (λ j. children line (prefix_of line.loads order (same j)) (next j)))

pub leads-here : (loads : List Load) (order : List ℕ) (q : List Place) (u : ℕ) → length q < length order → u ≡ get_or order (length q) 0 → u ∷ drop (length q + 1) order ≡ drop (length q) order
leads-here loads order q u h is = (λ j. is j ∷ drop (length q + 1) order) ∙ sym (drop_more order (length q) 0 h)

pub split_opened : (line : Line) (order : List ℕ) (tree : Tree) (trees : Vec Tree Global) (u : ℕ) (q : List Place) → shape_of tree ≡ split (shapes_of trees.items) → length q < length order → u ≡ get_or order (length q) 0
    → open_places line order (shape_of tree) q ≡ opened_all line order trees.items u q
split_opened line order tree trees u q is h at =
    λ j. leaf_places line (is j) (prefix_of line.loads order q) (sym (leads-here line.loads order q u h at) j) q

pub child_opened : (line : Line) (order : List ℕ) (ts : List Tree) (u : ℕ) (q : List Place) (kids rest : List Place) (p : Place) (i : ℕ) (t : Tree)
    → length q < length order → u ≡ get_or order (length q) 0 → i < length ts → t ≡ get_or ts i t → kids ≡ p ∷ rest
    → opened_from line order (drop i ts) u q kids ≡ open_places line order (shape_of t) (q ++ p ∷ []) ++ opened_from line order (drop (i + 1) ts) u q rest
child_opened line order ts u q kids rest p i t short at h is first =
    let leads = leads-more line.loads order q (prefix_of line.loads order q) u (drop (length q + 1) order) p (refl, leads-here line.loads order q u short at) in
    let shapes_are : shapes_of (drop i ts) ≡ more (shape_of t) (shapes_of (drop (i + 1) ts)) = shapes_of-drop ts i t h ∙ ap (λ x. more (shape_of x) (shapes_of (drop (i + 1) ts))) (sym is) in
    (λ j. all_leaf_places line (shapes_are j) (prefix_of line.loads order q) u (drop (length q + 1) order) q (first j))
    ∙ (λ j. leaf_places line (shape_of t) (leads.0 j) (leads.1 j) (q ++ p ∷ []) ++ opened_from line order (drop (i + 1) ts) u q rest)

pub opened_end : (line : Line) (order : List ℕ) (ts : List Tree) (u : ℕ) (q : List Place) (kids : List Place) (i : ℕ) → length ts ≤ i → opened_from line order (drop i ts) u q kids ≡ []
opened_end line order ts u q kids i h = ap (λ w. opened_from line order w u q kids) (drop_all i ts h)

pub no_kids : (line : Line) (order : List ℕ) (ts : List Tree) (u : ℕ) (q : List Place) (kids : List Place) → kids ≡ [] → opened_from line order ts u q kids ≡ []
no_kids line order [] u q kids e = refl
no_kids line order (t ∷ ts) u q kids e = ap (λ w. opened_from line order (t ∷ ts) u q w) e

assoc : (a b c : List (List Place)) → (a ++ b) ++ c ≡ a ++ (b ++ c)
assoc [] b c = refl
assoc (x ∷ a) b c = ap (λ w. x ∷ w) (assoc a b c)

pub append_none : (xs : List (List Place)) → xs ++ [] ≡ xs
append_none [] = refl
append_none (x ∷ xs) = ap (λ w. x ∷ w) (append_none xs)

-- where no unit is left a split leaves nothing open
pub opened_short : (line : Line) (order : List ℕ) (tree : Tree) (trees : Vec Tree Global) (q : List Place) (out : List (List Place)) → shape_of tree ≡ split (shapes_of trees.items) → length order ≤ length q → out ≡ out ++ open_places line order (shape_of tree) q
opened_short line order tree trees q out is short =
    sym (append_none out) ∙ (λ j. out ++ leaf_places line (sym is j) (prefix_of line.loads order q) (sym (drop_all (length q) order short) j) q)

-- one child more
pub opened_step : (out mid : List (List Place)) (child rest all whole : List (List Place)) → mid ≡ out ++ child → all ≡ child ++ rest → out ++ all ≡ whole → mid ++ rest ≡ whole
opened_step out mid child rest all whole e f g = ap (λ w. w ++ rest) e ∙ assoc out child rest ∙ ap (λ w. out ++ w) (sym f) ∙ g

take-front : (q : List Place) (p : Place) → take (length q) (q ++ p ∷ []) ≡ q
take-front [] p = refl
take-front (x ∷ q) p = ap (λ w. x ∷ w) (take-front q p)

length-last : (q : List Place) (p : Place) → length (q ++ p ∷ []) ≡ length q + 1
length-last [] p = refl
length-last (x ∷ q) p = let rest = length-last q p in omega (arith, rest)

-- the path without its last place
pub path_back : (q longer popped : List Place) (p : Place) (k : ℕ) → longer ≡ q ++ p ∷ [] → k ≡ length longer → popped ≡ take (k - 1) longer → popped ≡ q
path_back q longer popped p k is count back =
    let long = ap length is ∙ length-last q p in
    let less : k - 1 ≡ length q = omega (arith, long, count) in
    back ∙ (λ j. take (less j) (is j)) ∙ take-front q p

-- what is added of known prefixes are the tree's, and so many
pub added : (line : Line) (order : List ℕ) (t : Shape) (q : List Place) (known : Option (List (List Place))) (n : ℕ) (old new : List (List Place))
    → AreOpened line order t q known → IsAddedTo known n old new → (n ≡ length (open_places line order t q)) × (new ≡ old ++ open_places line order t q)
added line order t q known n old new are (qs, is, count, stand) =
    let these : qs ≡ open_places line order t q = rw is at are in
    (count ∙ ap length these, stand ∙ ap (λ w. old ++ w) these)

-- a tree with no open leaf has none
mutual
  pub closed_places : (line : Line) (t : Shape) (ps : Prefix) (order : List ℕ) (q : List Place) → open_count t ≡ 0 → leaf_places line t ps order q ≡ []
  closed_places line (split ts) ps [] q none = refl
  closed_places line (split ts) ps (u ∷ order) q none = all_closed_places line ts ps u order q (children line ps u) none
  closed_places line (leaf l) ps order q none = refl
  closed_places line open_leaf ps order q none = absurd (omega (arith, none))

  all_closed_places : (line : Line) (ts : Shapes) (ps : Prefix) (u : ℕ) (order : List ℕ) (q : List Place) (places : List Place) → open_counts ts ≡ 0 → all_leaf_places line ts ps u order q places ≡ []
  all_closed_places line no_shapes ps u order q places none = refl
  all_closed_places line (more t ts) ps u order q [] none = refl
  all_closed_places line (more t ts) ps u order q (p ∷ rest) none =
      (λ j. closed_places line t (set ps u (Some p)) order (q ++ p ∷ []) (omega (arith, none)) j ++ all_closed_places line ts ps u order q rest (omega (arith, none)) j)
