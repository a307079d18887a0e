-- A tree for units within their limits has a text, and what its text says of it.
-- `tree-levels`: 1 to 480 children, at most 48 splits, short ticks, slots below 8.
use Rattle.std.proofs.Common.{◌≡◌, ℕ, zero, suc, ◌<◌, ◌≤◌, true, All, List, [], ◌∷◌, length, set, Option, Some, refl, ap, sym, subst, arith}
use Rattle.std.proofs.lemmas.List.Elements.{All-head, All-tail}
use Rattle.ec_units.specs.declared.slave.Place.{Place}
use Rattle.ec_loads.specs.Held.{AreLoads}
use Rattle.ec_loads.specs.Line.{IsStrong, Line}
use Rattle.ec_loads.specs.Shape.{Leaf, tick, full, average, weighted, merging, counted, grouped, Shape, Shapes, split, leaf, open_leaf, no_shapes, more, shape_count}
use Rattle.ec_loads.specs.Search.{Prefix, children, LeafHolds, TreeWith, TreesWith, HasShortTick, HasShortTicks, HaveShortTicks}
use Rattle.ec_loads.specs.Weights.{total_weight}
use Rattle.ec_symmetry.specs.Reached.{In, here, there}
use Rattle.ec_symmetry.proofs.CountLemmas.{AreLeft, AreLeft-child, children-count}
use Rattle.ec_cert.specs.declared.kinds.Kinds.{Kinds}
use Rattle.ec_cert.specs.WellFormed.{IsLeafLine, HasLevels, HaveLevels}

abbrev pub Opens : Type 1
Opens = Prefix → List ℕ → Type 0

-- a split has as many trees as there are places
trees-count : (open_is : Opens) (line : Line) (v : Option ℕ) (ts : Shapes) (ps : Prefix) (u : ℕ) (order : List ℕ) (places : List Place) → TreesWith open_is line v ts ps u order places → shape_count ts ≡ length places
trees-count open_is line v no_shapes ps u order [] h = refl
trees-count open_is line v no_shapes ps u order (p ∷ rest) h = absurd h
trees-count open_is line v (more t ts) ps u order [] h = absurd h
trees-count open_is line v (more t ts) ps u order (p ∷ rest) h = ap suc (trees-count open_is line v ts ps u order rest h.1)

-- where weights aren't all 0 there is one
some_weight : (w : List ℕ) (h : ℕ) → 0 < total_weight w h → 1 ≤ h
some_weight w zero pos = absurd (omega arith)
some_weight w (suc h) pos = omega arith

-- a leaf that holds in a tick that is short, or by so many weights, has a line
leaf-line : (kinds : Kinds) (line : Line) (v : Option ℕ) (ps : Prefix) (l : Leaf) → kinds.weights ≡ true → (IsStrong line.rules → kinds.rooms ≡ true) → line.slots ≤ 8 → HasShortTick l → LeafHolds line v ps l → IsLeafLine kinds l
leaf-line kinds line v ps (tick t) later rooms few short h = short
leaf-line kinds line v ps (full t s) later rooms few short h = (short, omega (arith, h.0))
leaf-line kinds line v ps average later rooms few short h = tt
leaf-line kinds line v ps (weighted w) later rooms few (count, each) h = (later, record { least = some_weight w (length w) (subst (λ k. 0 < total_weight w k) (sym h.2) h.3); most = count; each = each })
leaf-line kinds line v ps merging later rooms few short h = rooms h.0
leaf-line kinds line v ps (counted p c) later rooms few (least, most, some, many) h = (rooms h.0, ((least, most), (some, many)))
leaf-line kinds line v ps (grouped pairs) later rooms few (least, most, each) h = (rooms h.0, record { least = least; most = most; each = each })

-- a tree has its levels where there may be leaves of its kinds: by weights, open ones where something is asked of them, and those of the strong rules where the line has these
mutual
  pub tree-levels : (open_is : Opens) (kinds : Kinds) → kinds.weights ≡ true → ((ps : Prefix) (order : List ℕ) → open_is ps order → kinds.left_open ≡ true) → (line : Line) → (IsStrong line.rules → kinds.rooms ≡ true) → (v : Option ℕ) (t : Shape) (ps : Prefix) (order : List ℕ) (d : ℕ) → AreLoads line.loads → 1 ≤ line.slots → line.slots ≤ 8
      → All (λ u. u < length line.loads) order → AreLeft line ps order → length order ≤ d → HasShortTicks t → TreeWith open_is line v t ps order → HasLevels kinds (suc d) t
  tree-levels open_is kinds later opens line rooms v (split ts) ps [] d within some few below left deep short h = absurd h
  tree-levels open_is kinds later opens line rooms v (split ts) ps (u ∷ order) zero within some few below left deep short h = absurd (omega arith)
  tree-levels open_is kinds later opens line rooms v (split ts) ps (u ∷ order) (suc d) within some few below left deep short h =
      let is = trees-count open_is line v ts ps u order (children line ps u) h in
      let low = All-head (λ w. w < length line.loads) u order below in
      let count = children-count line ps u within some few low left.within in
      (omega (arith, is, count.0), omega (arith, is, count.1), trees-levels open_is kinds later opens line rooms v ts ps u order (children line ps u) d within some few (All-tail (λ w. w < length line.loads) u order below) low left (λ q m. m) (omega arith) short h)
  tree-levels open_is kinds later opens line rooms v (leaf l) ps order d within some few below left deep short h = leaf-line kinds line v ps l later rooms few short h
  tree-levels open_is kinds later opens line rooms v open_leaf ps order d within some few below left deep short h = opens ps order h

  trees-levels : (open_is : Opens) (kinds : Kinds) → kinds.weights ≡ true → ((ps : Prefix) (order : List ℕ) → open_is ps order → kinds.left_open ≡ true) → (line : Line) → (IsStrong line.rules → kinds.rooms ≡ true) → (v : Option ℕ) (ts : Shapes) (ps : Prefix) (u : ℕ) (order : List ℕ) (places : List Place) (d : ℕ) → AreLoads line.loads → 1 ≤ line.slots
      → line.slots ≤ 8 → All (λ w. w < length line.loads) order → u < length line.loads → AreLeft line ps (u ∷ order) → ((q : Place) → In q places → In q (children line ps u)) → length order ≤ d → HaveShortTicks ts → TreesWith open_is line v ts ps u order places → HaveLevels kinds (suc d) ts
  trees-levels open_is kinds later opens line rooms v no_shapes ps u order places d within some few below low left among deep short h = tt
  trees-levels open_is kinds later opens line rooms v (more t ts) ps u order [] d within some few below low left among deep short h = absurd h
  trees-levels open_is kinds later opens line rooms v (more t ts) ps u order (p ∷ rest) d within some few below low left among deep short h = (
    tree-levels open_is kinds later opens line rooms v t (set ps u (Some p)) order d within some few below (AreLeft-child line ps u order p low (among p here) left) deep short.0 h.0,
    trees-levels open_is kinds later opens line rooms v ts ps u order rest d within some few below low left (λ q m. among q (there m)) deep short.1 h.1,
  )

leaf-short : (kinds : Kinds) (l : Leaf) → IsLeafLine kinds l → HasShortTick l
leaf-short kinds (tick t) h = h
leaf-short kinds (full t s) h = h.0
leaf-short kinds average h = tt
leaf-short kinds (weighted w) h = (h.1.most, h.1.each)
leaf-short kinds merging h = tt
leaf-short kinds (counted p c) h = (h.1.0.0, h.1.0.1, h.1.1.0, h.1.1.1)
leaf-short kinds (grouped pairs) h = (h.1.least, h.1.most, h.1.each)

-- a tree that has a text has short ticks
mutual
  pub tree-short : (kinds : Kinds) (d : ℕ) (t : Shape) → HasLevels kinds d t → HasShortTicks t
  tree-short kinds zero t h = absurd h
  tree-short kinds (suc d) (split ts) h = trees-short kinds d ts h.2
  tree-short kinds (suc d) (leaf l) h = leaf-short kinds l h
  tree-short kinds (suc d) open_leaf h = tt

  trees-short : (kinds : Kinds) (d : ℕ) (ts : Shapes) → HaveLevels kinds d ts → HaveShortTicks ts
  trees-short kinds d no_shapes h = tt
  trees-short kinds d (more t ts) h = (tree-short kinds d t h.0, trees-short kinds d ts h.1)

-- whatever is asked at its open leaves, it is a partial tree
mutual
  pub tree-partial : (open_is : Opens) (line : Line) (v : Option ℕ) (t : Shape) (ps : Prefix) (order : List ℕ) → TreeWith open_is line v t ps order → TreeWith (λ _ _. Unit {0}) line v t ps order
  tree-partial open_is line v (split ts) ps [] h = absurd h
  tree-partial open_is line v (split ts) ps (u ∷ order) h = trees-partial open_is line v ts ps u order (children line ps u) h
  tree-partial open_is line v (leaf l) ps order h = h
  tree-partial open_is line v open_leaf ps order h = tt

  trees-partial : (open_is : Opens) (line : Line) (v : Option ℕ) (ts : Shapes) (ps : Prefix) (u : ℕ) (order : List ℕ) (places : List Place) → TreesWith open_is line v ts ps u order places → TreesWith (λ _ _. Unit {0}) line v ts ps u order places
  trees-partial open_is line v no_shapes ps u order [] h = tt
  trees-partial open_is line v no_shapes ps u order (p ∷ rest) h = absurd h
  trees-partial open_is line v (more t ts) ps u order [] h = absurd h
  trees-partial open_is line v (more t ts) ps u order (p ∷ rest) h = (tree-partial open_is line v t (set ps u (Some p)) order h.0, trees-partial open_is line v ts ps u order rest h.1)
