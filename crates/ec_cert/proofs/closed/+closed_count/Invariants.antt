use Rattle.std.proofs.Common.{◌≡◌, ◌+◌, min, take}
use Rattle.ec_loads.specs.Search.{node_counts, open_counts}
use Rattle.ec_cert.specs.Shapes.{shapes_of}
use Rattle.ec_cert.proofs.closed.+closed_count.Given as goal

abbrev pub decreases-closed_count : goal.decreases-closed_count
decreases-closed_count l = goal.size-closed_count l

-- the trees that were looked at have no open leaf, and with the last one so many nodes
abbrev pub invariant-loop-i : goal.invariant-loop-i
invariant-loop-i l =
    record {
      none : open_counts (shapes_of (take l.i l.trees.items)) ≡ 0;
      count : l.count ≡ min (l.last + 1 + node_counts (shapes_of (take l.i l.trees.items))) 18446744073709551615;
    }
