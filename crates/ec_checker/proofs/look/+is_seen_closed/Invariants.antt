use Rattle.std.proofs.Common.{◌≡◌, take}
use Rattle.ec_loads.specs.Search.{open_counts}
use Rattle.ec_cert.specs.Shapes.{shapes_of}
use Rattle.ec_checker.proofs.look.+is_seen_closed.Given as goal

abbrev pub decreases-is_seen_closed : goal.decreases-is_seen_closed
decreases-is_seen_closed l = goal.size-is_seen_closed l

-- the trees that were looked at have no open leaf
abbrev pub invariant-loop-i : goal.invariant-loop-i
invariant-loop-i l = open_counts (shapes_of (take l.i l.trees.items)) ≡ 0
