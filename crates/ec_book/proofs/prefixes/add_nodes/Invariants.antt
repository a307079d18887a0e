use Rattle.std.proofs.Common.{◌≡◌, ◌++◌, map, take, vec_capacity}
use Rattle.ec_book.specs.Prefixes.{moved_node}
use Rattle.ec_book.proofs.prefixes.add_nodes.Given as goal

abbrev pub invariant-loop-node : goal.invariant-loop-node
invariant-loop-node l = (l.nodes.items ≡ l.initial.nodes.items ++ map (moved_node l.base) (take l.node-index l.others)) × (vec_capacity l.nodes ≡ vec_capacity l.initial.nodes)
