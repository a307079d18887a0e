-- Prefixes as nodes of trees.
use Rattle.std.specs.Prelude.{ℕ, zero, suc, ◌+◌, ◌<◌, ◌≤◌, All, List, [], ◌∷◌, ◌++◌, length, get_or, map}
use Rattle.ec_units.specs.declared.slave.Place.{Place}
use Rattle.ec_book.specs.declared.prefixes.Node.{Node}

-- behind these prefixes, in the order of their numbers, those of some nodes: each is its place behind the prefix of its parent
abbrev pub prefixes_behind : List (List Place) → List Node → List (List Place)
prefixes_behind known [] = known
prefixes_behind known (n ∷ ns) = prefixes_behind (known ++ (get_or known n.parent [] ++ n.place ∷ []) ∷ []) ns

-- the prefix of the node of this number; node 0 has no place
abbrev pub prefix_at : List Node → ℕ → List Place
prefix_at ns k = get_or (prefixes_behind ([] ∷ []) ns) k []

-- the prefixes of some nodes, by their numbers
abbrev pub prefixes_at : List Node → List ℕ → List (List Place)
prefixes_at ns ends = map (prefix_at ns) ends

-- each parent comes before its nodes, and the prefixes end at nodes that are there
pub record IsPrefixTree (ns : List Node) (ends : List ℕ) : Type 0 where
  pub parents : (i : ℕ) (n : Node) → i < length ns → (get_or ns i n).parent ≤ i
  pub within : All (λ k. k ≤ length ns) ends

-- the number of a node where as many other nodes stand before it; node 0 is one and the same
abbrev pub moved : ℕ → ℕ → ℕ
moved base zero = zero
moved base (suc k) = suc (k + base)

-- a node behind as many others
abbrev pub moved_node : ℕ → Node → Node
moved_node base n = record { parent = moved base n.parent; place = n.place }

-- a walk to the nodes of a search tree: the places that lead to where it is, and the prefixes that it marked
pub record WalkView : Type 0 where
  pub path : List Place
  pub marked : List (List Place)

abbrev pub walk_view : List Place → List (List Place) → WalkView
walk_view path marked = record { path = path; marked = marked }
