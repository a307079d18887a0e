use Rattle.std.proofs.Common.{◌≡◌, false, rules, ap, arith, ◌∙◌, IsTrue}
use Rattle.ec_loads.specs.Shape.{open_leaf}
use Rattle.ec_loads.specs.Search.{node_count}
use Rattle.ec_cert.specs.Shapes.{shape_of}
use Rattle.ec_cert.specs.declared.tree.Tree.{OpenLeaf, the_lemmas}
use Rattle.ec_search_threads.proofs.turn.has_nodes.Goals as goal

leaf_is : shape_of OpenLeaf ≡ open_leaf
leaf_is = search (rules, the_lemmas)

untrue : IsTrue false → ⊥
untrue h = absurd cc

pub returns-in-OpenLeaf : goal.returns-in-OpenLeaf
returns-in-OpenLeaf c =
    let none = ap node_count (ap shape_of c.in-OpenLeaf.is ∙ leaf_is) in
    (λ h. absurd (untrue h), λ some. absurd (omega (arith, none)))
