-- The nodes of a tree in the order in which a check judges them, and what is wrong with one.
use Rattle.std.specs.Prelude.{◌≡◌, ℕ, ◌+◌, ◌==◌, min, if◌then◌else◌, List, [], ◌∷◌, ◌++◌, length, set, Option, Some, None, Ok, Err}
use Rattle.ec_units.specs.declared.slave.Place.{Place}
use Rattle.ec_loads.specs.Line.{Line}
use Rattle.ec_loads.specs.Shape.{Shape, Shapes, split, leaf, open_leaf, no_shapes, more, shape_count}
use Rattle.ec_loads.specs.Search.{Prefix, children}
use Rattle.ec_checker.specs.Judged.{leaf_holds, level_holds, tree_judged}
use Rattle.ec_checker.specs.declared.fault.CheckFault.{CheckFault}
use Rattle.ec_checker.specs.declared.fault.CheckFault.TheVariants as fault

-- a node: the tree that it begins, the prefix at which it stands, and the units that are left there
pub record Node : Type 0 where
  pub tree : Shape
  pub at : Prefix
  pub left : List ℕ

-- the nodes of a tree at a prefix, each before its children, of whom there are no more than the prefix has
abbrev mutual
  pub nodes_of : Line → Shape → Prefix → List ℕ → List Node
  nodes_of line (split ts) ps [] = record { tree = split ts; at = ps; left = [] } ∷ []
  nodes_of line (split ts) ps (u ∷ order) = record { tree = split ts; at = ps; left = u ∷ order } ∷ nodes_below line ts ps u order (children line ps u)
  nodes_of line (leaf l) ps order = record { tree = leaf l; at = ps; left = order } ∷ []
  nodes_of line open_leaf ps order = record { tree = open_leaf; at = ps; left = order } ∷ []

  pub nodes_below : Line → Shapes → Prefix → ℕ → List ℕ → List Place → List Node
  nodes_below line no_shapes ps u order places = []
  nodes_below line (more t ts) ps u order [] = []
  nodes_below line (more t ts) ps u order (p ∷ rest) = nodes_of line t (set ps u (Some p)) order ++ nodes_below line ts ps u order rest

-- what is wrong with a tree's own node, whose number is k, if anything: no unit is left for a split, or it has another count of children; or a leaf doesn't hold, a
-- closed one at the value, an open one at the level
abbrev pub fault_of : Line → Option ℕ → Option ℕ → Shape → Prefix → List ℕ → ℕ → Option CheckFault
fault_of line v level (split ts) ps [] k = Some (fault.Depth k)
fault_of line v level (split ts) ps (u ∷ order) k = if shape_count ts == length (children line ps u) then None else Some (fault.Children k (length (children line ps u)) (shape_count ts))
fault_of line v level (leaf l) ps order k = if leaf_holds line v ps l then None else Some (fault.Leaf k)
fault_of line v level open_leaf ps order k = if level_holds line level ps then None else Some (fault.Leaf k)

abbrev pub fault_at : Line → Option ℕ → Option ℕ → Node → ℕ → Option CheckFault
fault_at line v level n k = fault_of line v level n.tree n.at n.left k

-- the number that is told of the i-th node, from 0
abbrev pub number_of : ℕ → ℕ
number_of i = min i 18446744073709551615

-- nothing is wrong with these nodes, the first of which is the i-th
abbrev pub AreRight : Line → Option ℕ → Option ℕ → ℕ → List Node → Type 0
AreRight line v level i [] = Unit {0}
AreRight line v level i (n ∷ nodes) = (fault_at line v level n (number_of i) ≡ None) × AreRight line v level (i + 1) nodes

-- of these nodes, the first of which is the i-th, one has this fault, and nothing is wrong with those before it
pub record HasFirstWrong (line : Line) (v level : Option ℕ) (i : ℕ) (nodes : List Node) (f : CheckFault) : Type 0 where
  pub before : List Node
  pub node : Node
  pub behind : List Node
  pub parts : nodes ≡ before ++ node ∷ behind
  pub right : AreRight line v level i before
  pub wrong : fault_at line v level node (number_of (length before + i)) ≡ Some f

-- where a fault is found in a tree, it is that of the first node with which something is wrong; where none is found, nothing is wrong with any
abbrev pub FirstWrongIsFound : Type 0
FirstWrongIsFound =
    (line : Line) (v level : Option ℕ) (tree : Shape) (ps : Prefix) (order : List ℕ) →
    ((f : CheckFault) → tree_judged line v level tree ps order 0 ≡ Err f → HasFirstWrong line v level 0 (nodes_of line tree ps order) f)
    × ((k : ℕ) → tree_judged line v level tree ps order 0 ≡ Ok k → AreRight line v level 0 (nodes_of line tree ps order))
