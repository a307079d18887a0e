use Rattle.std.proofs.Common.{◌≡◌, ◌+◌, min, take}
use Rattle.ec_loads.specs.Search.{node_counts}
use Rattle.ec_cert.specs.Shapes.{shapes_of}
use Rattle.ec_cert.proofs.nodes.+node_count.Given as goal

abbrev pub invariant-loop-i : goal.invariant-loop-i
invariant-loop-i l = l.count ≡ min (1 + node_counts (shapes_of (take l.i l.trees.items))) 18446744073709551615
