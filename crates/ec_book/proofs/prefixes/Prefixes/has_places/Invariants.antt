use Rattle.std.proofs.Common.{◌≡◌, ◌≤◌, ◌↔◌, length}
use Rattle.ec_book.specs.Prefixes.{prefix_at}
use Rattle.ec_book.proofs.prefixes.Prefixes.has_places.Given as goal

abbrev pub decreases-loop-node : goal.decreases-loop-node
decreases-loop-node l = l.node

abbrev pub invariant-loop-node : goal.invariant-loop-node
invariant-loop-node l =
    let nodes = l.self-inside.nodes.items in
    (l.node ≤ length nodes) × ((prefix_at nodes l.node ≡ l.left) ↔ (prefix_at nodes l.initial.node ≡ l.places))
