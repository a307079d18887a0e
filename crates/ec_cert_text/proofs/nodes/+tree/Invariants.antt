use Rattle.std.proofs.Common.{◌≡◌, ◌-◌, ◌+◌, ◌*◌}
use Rattle.ec_cert_text.specs.Reading.{with_front, tree_at, many_from}
use Rattle.ec_cert_text.specs.Views.{tree_views, at_view}
use Rattle.ec_cert_text.proofs.nodes.+tree.Given as goal

abbrev pub decreases-tree_of : goal.decreases-tree_of
decreases-tree_of l = 2 * l.levels

abbrev pub decreases-trees_of : goal.decreases-trees_of
decreases-trees_of l = 2 * l.levels + 1

abbrev pub invariant-trees_of-children : goal.invariant-trees_of-children
invariant-trees_of-children l =
    with_front (tree_views l.trees.items) (many_from (tree_at l.kinds l.levels) (l.count - l.counter) (at_view l.rest)) ≡ many_from (tree_at l.kinds l.levels) l.count (at_view l.place)
