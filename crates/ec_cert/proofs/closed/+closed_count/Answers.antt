use Rattle.std.proofs.Common.{◌≡◌, ◌+◌, ◌-◌, ◌<◌, length, take, ap, arith, rules, take_all}
use Rattle.ec_loads.specs.Search.{node_count, node_counts, open_count, open_counts}
use Rattle.ec_cert.specs.Shapes.{shape_of, shapes_of}
use Rattle.ec_cert.proofs.TreeLemmas.{shape_of-trees, opens_step, opens_part, nodes_step}
use Rattle.ec_cert.proofs.closed.+closed_count.Goals as goal

pub returns-in_err-last-in-Split : goal.returns-in_err-last-in-Split
returns-in_err-last-in-Split t c =
    let ts = c.as_ref-trees.result.now.items in
    let j = c.len-children.result - 1 in
    let j_is : j + 1 ≡ c.len-children.result = omega (arith, c.if-children-eq0.false) in
    let step = opens_step ts j c.index.result.now (omega (arith, j_is, c.len-children.ensures)) c.index.ensures in
    let part = opens_part ts (j + 1) in
    let whole = ap open_count (shape_of-trees c.args.tree.now c.in-Split.trees c.as_ref-trees.result.now c.in-Split.is c.as_ref-trees.ensures) in
    let some : 0 < open_count (shape_of c.args.tree.now) = omega (arith, whole, step, part, c.in_err-last-in-Split.ensures) in
    search (rules, some)

pub returns-in_err-more-in-Split : goal.returns-in_err-more-in-Split
returns-in_err-more-in-Split t c =
    let ts = c.as_ref-trees.result.now.items in
    let i = c.loop-i.i in
    let within = c.loop-i-test.true in
    let step = opens_step ts i c.index-in-loop-i.result.now (omega (arith, within, c.len-children.ensures)) c.index-in-loop-i.ensures in
    let part = opens_part ts (i + 1) in
    let whole = ap open_count (shape_of-trees c.args.tree.now c.in-Split.trees c.as_ref-trees.result.now c.in-Split.is c.as_ref-trees.ensures) in
    let some : 0 < open_count (shape_of c.args.tree.now) = omega (arith, whole, step, part, c.in_err-more-in-Split.ensures) in
    search (rules, some)

pub loop-i-preserved : goal.loop-i-preserved
loop-i-preserved t c =
    let ts = c.as_ref-trees.result.now.items in
    let i = c.loop-i.i in
    let within : i < length ts = omega (arith, c.loop-i-test.true, c.len-children.ensures) in
    let opens = opens_step ts i c.index-in-loop-i.result.now within c.index-in-loop-i.ensures in
    let nodes = nodes_step ts i c.index-in-loop-i.result.now within c.index-in-loop-i.ensures in
    let child = c.in_ok-more-in-Split.ensures in
    record {
      none = omega (arith, opens, child.0, c.loop-i.invariant.none);
      count = omega (arith, nodes, child.1, c.loop-i.invariant.count, c.saturating_add-count-in-loop-i.ensures);
    }

pub returns-after-loop-i : goal.returns-after-loop-i
returns-after-loop-i t c =
    let ts = c.as_ref-trees.result.now.items in
    let j = c.len-children.result - 1 in
    let j_is : j + 1 ≡ c.len-children.result = omega (arith, c.if-children-eq0.false) in
    let end : c.loop-i.i ≡ j = omega (arith, c.loop-i-test.false, c.loop-i.auto.i-end) in
    let opens_at = ap (λ w. open_counts (shapes_of (take w ts))) end in
    let nodes_at = ap (λ w. node_counts (shapes_of (take w ts))) end in
    let within : j < length ts = omega (arith, j_is, c.len-children.ensures) in
    let opens = opens_step ts j c.index.result.now within c.index.ensures in
    let nodes = nodes_step ts j c.index.result.now within c.index.ensures in
    let last = c.in_ok-last-in-Split.ensures in
    let all = take_all (j + 1) ts (omega (arith, j_is, c.len-children.ensures)) in
    let opens_all = ap (λ w. open_counts (shapes_of w)) all in
    let nodes_all = ap (λ w. node_counts (shapes_of w)) all in
    let is = shape_of-trees c.args.tree.now c.in-Split.trees c.as_ref-trees.result.now c.in-Split.is c.as_ref-trees.ensures in
    let opens_is = ap open_count is in
    let nodes_is = ap node_count is in (
      omega (arith, c.loop-i.invariant.none, opens_at, opens, last.0, opens_all, opens_is),
      omega (arith, c.loop-i.invariant.count, nodes_at, nodes, last.1, nodes_all, nodes_is),
    )
