use Rattle.std.proofs.Common.{ap, arith, rules, take_all}
use Rattle.ec_loads.specs.Search.{open_count, open_counts}
use Rattle.ec_cert.specs.Shapes.{shapes_of}
use Rattle.ec_cert.proofs.TreeLemmas.{shape_of-trees, opens_step}
use Rattle.ec_checker.proofs.look.+is_seen_closed.Goals as goal

pub loop-i-preserved : goal.loop-i-preserved
loop-i-preserved t c =
    let ts = c.as_ref-trees.result.now.items in
    let i = c.loop-i.i in
    let step = opens_step ts i c.index.result.now (omega (arith, c.loop-i-test.true, c.len-i-end.ensures)) c.index.ensures in
    let none = c.if-not-is_seen_closed.ensures (search rules) in
    omega (arith, step, none, c.loop-i.invariant)

pub returns-after-loop-i : goal.returns-after-loop-i
returns-after-loop-i t c =
    let ts = c.as_ref-trees.result.now.items in
    let all = ap (λ w. open_counts (shapes_of w)) (take_all c.loop-i.i ts (omega (arith, c.loop-i-test.false, c.len-i-end.ensures))) in
    let whole = ap open_count (shape_of-trees c.args.tree.now c.in-Split.trees c.as_ref-trees.result.now c.in-Split.is c.as_ref-trees.ensures) in
    λ _. omega (arith, c.loop-i.invariant, all, whole)
