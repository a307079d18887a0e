use Rattle.std.proofs.Common.{◌≡◌, ◌+◌, ◌++◌, length, drop, take, min, ◌-◌}
use Rattle.ec_loads.specs.Search.{node_counts}
use Rattle.ec_cert.specs.Shapes.{shapes_of}
use Rattle.ec_loads.specs.Line.{line_by}
use Rattle.ec_symmetry.specs.Ruled.{line_rules}
use Rattle.ec_book.proofs.OpenLemmas.{opened_from, opened_all}
use Rattle.ec_book.proofs.open.+mark_open.Given as goal

abbrev pub decreases-mark_open : goal.decreases-mark_open
decreases-mark_open l = length l.order.now - length l.walk.now.path

abbrev pub invariant-loop-i : goal.invariant-loop-i
invariant-loop-i l =
    record {
      path : l.walk.path ≡ l.initial.walk.path;
      marked : l.walk.marked ++ opened_from (line_by (line_rules l.rules) l.loads.loads l.loads.slots) l.order (drop l.i l.trees.items) l.unit l.initial.walk.path l.places
          ≡ l.initial.walk.marked ++ opened_all (line_by (line_rules l.rules) l.loads.loads l.loads.slots) l.order l.trees.items l.unit l.initial.walk.path;
      count : l.count ≡ min (1 + node_counts (shapes_of (take l.i l.trees.items))) 18446744073709551615;
    }
