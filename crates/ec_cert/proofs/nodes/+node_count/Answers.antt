use Rattle.std.proofs.Common.{◌≡◌, ap, arith, ◌∙◌, take_all}
use Rattle.ec_loads.specs.Search.{node_count, node_counts}
use Rattle.ec_cert.specs.Shapes.{shape_of, shapes_of}
use Rattle.ec_cert.proofs.TreeLemmas.{shape_of-trees, shape_of-OpenLeaf, nodes_step}
use Rattle.ec_cert.proofs.nodes.+node_count.Goals as goal

pub loop-i-preserved : goal.loop-i-preserved
loop-i-preserved t c =
    let step = nodes_step c.as_ref-trees.result.now.items c.loop-i.i c.index.result.now (omega (arith, c.loop-i-test.true, c.len-i-end.ensures)) c.index.ensures in
    omega (arith, step, c.loop-i.invariant, c.node_count.ensures, c.saturating_add-count.ensures)

pub returns-after-loop-i : goal.returns-after-loop-i
returns-after-loop-i t c =
    let ts = c.as_ref-trees.result.now.items in
    let all = ap (λ w. node_counts (shapes_of w)) (take_all c.loop-i.i ts (omega (arith, c.loop-i-test.false, c.len-i-end.ensures))) in
    let whole = ap node_count (shape_of-trees c.args.tree.now c.in-Split.trees c.as_ref-trees.result.now c.in-Split.is c.as_ref-trees.ensures) in
    omega (arith, all, whole, c.loop-i.invariant)

pub returns-in-OpenLeaf : goal.returns-in-OpenLeaf
returns-in-OpenLeaf t c =
    let none : node_count (shape_of c.args.tree.now) ≡ 0 = ap (λ w. node_count (shape_of w)) c.in-OpenLeaf.is ∙ ap node_count shape_of-OpenLeaf in
    omega (arith, none)
