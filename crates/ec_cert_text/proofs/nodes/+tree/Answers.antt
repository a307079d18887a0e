use Rattle.std.proofs.Common.{◌≡◌, ◌++◌, ◌∷◌, [], map, ap, rules}
use Rattle.std.proofs.lemmas.Result.{err_from_is_err_and}
use Rattle.std.proofs.lemmas.List.{map_push}
use Rattle.ec_loads.specs.Shape.{leaf, tick}
use Rattle.ec_cert.specs.declared.tree.Tree.{TickLeaf, the_lemmas}
use Rattle.ec_cert.specs.Shapes.{shape_of}
use Rattle.ec_cert_text.specs.Views.{at_view, tree_views}
use Rattle.ec_cert_text.specs.Reading.{node_at, tree_at, many_from}
use Rattle.ec_cert_text.proofs.ManyLemmas.{fails_as, goes_on, ends, many_begin, many_end}
use Rattle.ec_cert_text.proofs.NodeLaws.{tree_fails}
use Rattle.ec_cert_text.proofs.TreeLemmas.{split_fails, split_reads, tick_reads, full_reads, average_reads, weights_reads, open_reads, merge_reads, count_reads, groups_reads}
use Rattle.ec_cert_text.proofs.nodes.+tree.Goals as goal

pub tree_of-returns-in_err-node : goal.tree_of-returns-in_err-node
tree_of-returns-in_err-node t c =
    let p = err_from_is_err_and c.from_residual.result c.from_residual.ensures.1 in
    let here = at_view c.args.place in
    rw (p.1, p.2) (fails_as c.in_err-node.field-0.0 (node_at c.args.kinds c.args.levels here) (tree_at c.args.kinds c.args.levels here) (tree_fails c.args.kinds c.args.levels here) c.in_err-node.ensures.exact)

pub tree_of-returns-in_err-trees-in-Split : goal.tree_of-returns-in_err-trees-in-Split
tree_of-returns-in_err-trees-in-Split t c =
    let p = err_from_is_err_and c.from_residual-in_err-trees-in-Split.result c.from_residual-in_err-trees-in-Split.ensures.1 in
    rw (p.1, p.2) (split_fails c.args.kinds c.args.levels c.in-Split.count (at_view c.args.place) (at_view c.in_ok-node.rest) c.in_ok-node.node c.in_err-trees-in-Split.field-0.0 c.in_ok-node.ensures.deep c.in_ok-node.ensures.exact c.in-Split.is c.in_err-trees-in-Split.ensures)

pub tree_of-returns-in_ok-split_of-in-Split : goal.tree_of-returns-in_ok-split_of-in-Split
tree_of-returns-in_ok-split_of-in-Split t c =
    split_reads c.args.kinds c.args.levels c.in-Split.count (at_view c.args.place) (at_view c.in_ok-node.rest) (at_view c.in_ok-trees-in-Split.rest) c.in_ok-node.node (tree_views c.in_ok-trees-in-Split.trees.items) (shape_of c.in_ok-split_of-in-Split.field-0) c.in_ok-node.ensures.deep c.in_ok-node.ensures.exact c.in-Split.is c.in_ok-trees-in-Split.ensures c.in_ok-split_of-in-Split.ensures

pub tree_of-returns-in-TickLeaf : goal.tree_of-returns-in-TickLeaf
tree_of-returns-in-TickLeaf t c = tick_reads c.args.kinds c.args.levels c.in-TickLeaf.tick (at_view c.args.place) (at_view c.in_ok-node.rest) c.in_ok-node.node c.in_ok-node.ensures.deep c.in_ok-node.ensures.exact c.in-TickLeaf.is

pub tree_of-returns-in-FullLeaf : goal.tree_of-returns-in-FullLeaf
tree_of-returns-in-FullLeaf t c = full_reads c.args.kinds c.args.levels c.in-FullLeaf.tick c.in-FullLeaf.slot (at_view c.args.place) (at_view c.in_ok-node.rest) c.in_ok-node.node c.in_ok-node.ensures.deep c.in_ok-node.ensures.exact c.in-FullLeaf.is

pub tree_of-returns-in-Average : goal.tree_of-returns-in-Average
tree_of-returns-in-Average t c = average_reads c.args.kinds c.args.levels (at_view c.args.place) (at_view c.in_ok-node.rest) c.in_ok-node.node c.in_ok-node.ensures.deep c.in_ok-node.ensures.exact c.in-Average.is

pub tree_of-returns-in-Weights : goal.tree_of-returns-in-Weights
tree_of-returns-in-Weights t c = weights_reads c.args.kinds c.args.levels c.in-Weights.weights (at_view c.args.place) (at_view c.in_ok-node.rest) c.in_ok-node.node c.in_ok-node.ensures.deep c.in_ok-node.ensures.exact c.in-Weights.is

pub tree_of-returns-in-OpenLeaf : goal.tree_of-returns-in-OpenLeaf
tree_of-returns-in-OpenLeaf t c = open_reads c.args.kinds c.args.levels (at_view c.args.place) (at_view c.in_ok-node.rest) c.in_ok-node.node c.in_ok-node.ensures.deep c.in_ok-node.ensures.exact c.in-OpenLeaf.is

pub tree_of-returns-in-Merge : goal.tree_of-returns-in-Merge
tree_of-returns-in-Merge t c = merge_reads c.args.kinds c.args.levels (at_view c.args.place) (at_view c.in_ok-node.rest) c.in_ok-node.node c.in_ok-node.ensures.deep c.in_ok-node.ensures.exact c.in-Merge.is

pub tree_of-returns-in-Count : goal.tree_of-returns-in-Count
tree_of-returns-in-Count t c = count_reads c.args.kinds c.args.levels c.in-Count.period c.in-Count.bytes (at_view c.args.place) (at_view c.in_ok-node.rest) c.in_ok-node.node c.in_ok-node.ensures.deep c.in_ok-node.ensures.exact c.in-Count.is

pub tree_of-returns-in-Groups : goal.tree_of-returns-in-Groups
tree_of-returns-in-Groups t c = groups_reads c.args.kinds c.args.levels c.in-Groups.pairs (at_view c.args.place) (at_view c.in_ok-node.rest) c.in_ok-node.node c.in_ok-node.ensures.deep c.in_ok-node.ensures.exact c.in-Groups.is

pub trees_of-children-init : goal.trees_of-children-init
trees_of-children-init t c = many_begin (tree_at c.args.kinds c.args.levels) (tree_views c.in_ok-trees.trees.items) c.args.count (at_view c.args.place) (ap (map shape_of) c.in_ok-trees.ensures.items)

pub trees_of-returns : goal.trees_of-returns
trees_of-returns t c = many_end (tree_at c.args.kinds c.args.levels) (tree_views c.children.trees.items) c.args.count c.children.counter (at_view c.children.rest) (many_from (tree_at c.args.kinds c.args.levels) c.args.count (at_view c.args.place)) c.children-test.false c.children.invariant

pub trees_of-returns-in_err-tree : goal.trees_of-returns-in_err-tree
trees_of-returns-in_err-tree t c =
    let p = err_from_is_err_and c.from_residual-in_err-tree.result c.from_residual-in_err-tree.ensures.1 in
    rw (p.1, p.2) (ends (tree_at c.args.kinds c.args.levels) c.in_err-tree.field-0.0 (tree_views c.children.trees.items) c.args.count c.children.counter (at_view c.children.rest) (many_from (tree_at c.args.kinds c.args.levels) c.args.count (at_view c.args.place)) c.children-test.true c.in_err-tree.ensures c.children.invariant)

pub trees_of-children-preserved-in-Some : goal.trees_of-children-preserved-in-Some
trees_of-children-preserved-in-Some t c =
    let n = TickLeaf c.in-Some.tick in
    let s : shape_of n ≡ leaf (tick c.in-Some.tick) = search (rules, the_lemmas) in
    let e : tree_views c.push.new.self.items ≡ tree_views c.children.trees.items ++ leaf (tick c.in-Some.tick) ∷ [] = rw (c.in_ok-push.ensures.items, ← s) (map_push _ c.children.trees.items n) in
    rw e (goes_on (tree_at c.args.kinds c.args.levels) (tree_views c.children.trees.items) c.args.count c.children.counter (at_view c.children.rest) (leaf (tick c.in-Some.tick)) (at_view c.in-Some.after) (many_from (tree_at c.args.kinds c.args.levels) c.args.count (at_view c.args.place)) c.children-test.true (c.in-Some.ensures c.args.kinds) c.children.invariant)

pub trees_of-children-preserved : goal.trees_of-children-preserved
trees_of-children-preserved t c =
    let n = c.in_ok-tree.tree in
    let e : tree_views c.push-in-children.new.self.items ≡ tree_views c.children.trees.items ++ shape_of n ∷ [] = rw c.in_ok-push-2.ensures.items (map_push _ c.children.trees.items n) in
    rw e (goes_on (tree_at c.args.kinds c.args.levels) (tree_views c.children.trees.items) c.args.count c.children.counter (at_view c.children.rest) (shape_of n) (at_view c.in_ok-tree.after) (many_from (tree_at c.args.kinds c.args.levels) c.args.count (at_view c.args.place)) c.children-test.true c.in_ok-tree.ensures c.children.invariant)
