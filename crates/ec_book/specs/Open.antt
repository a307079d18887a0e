-- The prefixes of a tree's open leaves.
use Rattle.std.specs.Prelude.{◌≡◌, ℕ, List, [], ◌∷◌, ◌++◌, length, drop, set, slice_get, Option, Some, IfSome}
use Rattle.ec_units.specs.declared.slave.Place.{Place}
use Rattle.ec_units.specs.declared.unit.Load.{Load}
use Rattle.ec_loads.specs.Line.{Line}
use Rattle.ec_loads.specs.Shape.{Shape, Shapes, split, leaf, open_leaf, no_shapes, more}
use Rattle.ec_loads.specs.Search.{Prefix, children}
use Rattle.ec_symmetry.specs.Orders.{prefix_of}

-- in preorder, the places of the units that lead to each open leaf, where `q` leads to the tree; by the prefix and the units that are left
abbrev mutual
  pub leaf_places : Line → Shape → Prefix → List ℕ → List Place → List (List Place)
  leaf_places line (split ts) ps [] q = []
  leaf_places line (split ts) ps (u ∷ order) q = all_leaf_places line ts ps u order q (children line ps u)
  leaf_places line (leaf l) ps order q = []
  leaf_places line open_leaf ps order q = q ∷ []

  pub all_leaf_places : Line → Shapes → Prefix → ℕ → List ℕ → List Place → List Place → List (List Place)
  all_leaf_places line no_shapes ps u order q places = []
  all_leaf_places line (more t ts) ps u order q [] = []
  all_leaf_places line (more t ts) ps u order q (p ∷ rest) =
      leaf_places line t (set ps u (Some p)) order (q ++ p ∷ []) ++ all_leaf_places line ts ps u order q rest

-- the places that lead to each open leaf of a tree to which `q` leads, by the units in their order
abbrev pub open_places : Line → List ℕ → Shape → List Place → List (List Place)
open_places line order t q = leaf_places line t (prefix_of line.loads order q) (drop (length q) order) q

-- where prefixes are known, they are those of each open leaf of the tree to which `q` leads
abbrev pub AreOpened : Line → List ℕ → Shape → List Place → Option (List (List Place)) → Type 0
AreOpened line order t q known = IfSome known (λ qs. qs ≡ open_places line order t q)

-- the prefixes are known, so many, and they stand behind those that were there
abbrev pub IsAddedTo : Option (List (List Place)) → ℕ → List (List Place) → List (List Place) → Type 0
IsAddedTo known n old new = (qs : List (List Place)) × (known ≡ Some qs) × (n ≡ length qs) × (new ≡ old ++ qs)

-- the prefix and the units that are left are those to which `q` leads
abbrev pub LeadsTo : List Load → List ℕ → List Place → Prefix → List ℕ → Type 0
LeadsTo loads order q ps rest = (ps ≡ prefix_of loads order q) × (rest ≡ drop (length q) order)

-- the m-th of these places lead to the prefix
abbrev pub StandsAt : List Load → List ℕ → List (List Place) → ℕ → Prefix → List ℕ → Type 0
StandsAt loads order prefixes m ps rest = (q : List Place) × (slice_get prefixes m ≡ Some q) × LeadsTo loads order q ps rest
